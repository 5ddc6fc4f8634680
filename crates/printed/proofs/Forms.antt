-- The four texts differ: the third byte tells a refusal, and what follows the word and the digits behind it the other three. Assumes nothing.
use mathlib.Core.Path.{◌≡◌, refl, sym, ap, ◌∙◌}
use mathlib.Core.List.{List, [], ◌∷◌, ◌++◌}
use Prim.Native.Nat.{ℕ}
use native.Mathlib.Omega.{arith}
use lib.ListN.{get_or, drop}
use Rattle.listing.specs.Text.{decimal, readings_word, endless_word, many_word, refused_word, refused_text}
use Rattle.listing.proofs.Digits.{is_digit, decimal_injective, front_digits, behind_digits, front_decimal, behind_decimal}
use Rattle.printed.specs.PrintedText.{Begins}

-- A refusal and a listing

third_refused : (n : ℕ) → get_or (refused_text n) 2 0 ≡ 102
unfolding refused_text refused_word
third_refused n = refl

third_listing : (xs : List ℕ) → get_or (readings_word ++ xs) 2 0 ≡ 97
unfolding readings_word
third_listing xs = refl

pub refused_or_listed : (text xs : List ℕ) (n : ℕ) → text ≡ refused_text n → text ≡ readings_word ++ xs → ⊥
refused_or_listed text xs n e f =
    let a : get_or text 2 0 ≡ 102 = ap (λ (t : List ℕ). get_or t 2 0) e ∙ third_refused n in
    let b : get_or text 2 0 ≡ 97 = ap (λ (t : List ℕ). get_or t 2 0) f ∙ third_listing xs in
    omega arith

pub refused_once : (n m : ℕ) → refused_text n ≡ refused_text m → n ≡ m
unfolding refused_text refused_word
refused_once n m e =
    let same : decimal n ++ (10 ∷ []) ≡ decimal m ++ (10 ∷ []) = ap (λ (t : List ℕ). drop 8 t) e in
    decimal_injective n m (sym (front_decimal n []) ∙ (ap front_digits same ∙ front_decimal m []))

-- The three listings

behind_word : (xs ys : List ℕ) → readings_word ++ xs ≡ readings_word ++ ys → xs ≡ ys
unfolding readings_word
behind_word xs ys e = ap (λ (t : List ℕ). drop 9 t) e

unfoldable after_digits : List ℕ → ℕ
after_digits xs = get_or (behind_digits xs) 0 0

after_endless : after_digits endless_word ≡ 101
unfolding endless_word behind_digits is_digit after_digits
after_endless = refl

after_many : after_digits many_word ≡ 43
unfolding many_word behind_digits is_digit after_digits
after_many = refl

after_count : (n : ℕ) (rest : List ℕ) → after_digits (decimal n ++ (10 ∷ rest)) ≡ 10
unfolding after_digits
after_count n rest = ap (λ (t : List ℕ). get_or t 0 0) (behind_decimal n rest)

differ : (xs ys text : List ℕ) (a b : ℕ) → after_digits xs ≡ a → after_digits ys ≡ b → (a ≡ b → ⊥) → text ≡ readings_word ++ xs → text ≡ readings_word ++ ys → ⊥
differ xs ys text a b p q apart e f = apart (sym p ∙ (ap after_digits (behind_word xs ys (sym e ∙ f)) ∙ q))

pub endless_or_many : (text : List ℕ) → text ≡ readings_word ++ endless_word → text ≡ readings_word ++ many_word → ⊥
endless_or_many text = differ endless_word many_word text 101 43 after_endless after_many (λ z. omega arith)

pub endless_or_count : (text : List ℕ) (n : ℕ) → text ≡ readings_word ++ endless_word → Begins text n → ⊥
endless_or_count text n e b =
    differ endless_word (decimal n ++ (10 ∷ b.rest)) text 101 10 after_endless (after_count n b.rest) (λ z. omega arith) e b.text_is

pub many_or_count : (text : List ℕ) (n : ℕ) → text ≡ readings_word ++ many_word → Begins text n → ⊥
many_or_count text n e b = differ many_word (decimal n ++ (10 ∷ b.rest)) text 43 10 after_many (after_count n b.rest) (λ z. omega arith) e b.text_is

pub count_once : (text : List ℕ) (n m : ℕ) → Begins text n → Begins text m → n ≡ m
count_once text n m b d =
    let same : decimal n ++ (10 ∷ b.rest) ≡ decimal m ++ (10 ∷ d.rest) =
    behind_word (decimal n ++ (10 ∷ b.rest)) (decimal m ++ (10 ∷ d.rest)) (sym b.text_is ∙ d.text_is) in
    decimal_injective n m (sym (front_decimal n b.rest) ∙ (ap front_digits same ∙ front_decimal m d.rest))
