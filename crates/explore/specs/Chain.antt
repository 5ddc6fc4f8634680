-- The index of stored states: chains by bucket over a list of keys. Assumes nothing: these are definitions.
use Rattle.std.specs.Prelude.{◌≡◌, cond, List, ℕ, zero, suc, ◌*◌, ◌/◌, ◌%◌, ◌≤◌, ◌<◌, eqb, length, get_or, take}
use Rattle.transducer.specs.Format.{max_states}

abbrev pub buckets : ℕ
buckets = 2048

-- The bucket of a key: the top eleven bits of its product with 2^32 over the golden ratio.
unfoldable pub bucket_of : ℕ → ℕ
bucket_of key = key * 2654435761 / 2097152 % buckets

-- One more than the place of the last of the first n keys that is in a bucket; 0 where none is.
unfoldable pub last_in : (b n : ℕ) → List ℕ → ℕ
last_in b zero xs = 0
last_in b (suc n) xs = cond (eqb (bucket_of (get_or xs n 0)) b) (suc n) (last_in b n xs)

-- No key stands twice.
unfoldable pub Once : List ℕ → Type 0
Once xs = (i j : ℕ) → i < length xs → j < length xs → get_or xs i 0 ≡ get_or xs j 0 → i ≡ j

-- The keys xs are stored at the front of `states`, and heads and links lead through each bucket from the last stored one back.
pub record Chained (xs states heads links : List ℕ) : Type 0 where
  pub stored : take (length xs) states ≡ xs
  pub few : length xs ≤ max_states
  pub room : max_states ≤ length states
  pub heads_long : length heads ≡ buckets
  pub links_long : length links ≡ max_states
  pub once : Once xs
  pub heads_are : (b : ℕ) → b < buckets → get_or heads b 0 ≡ last_in b (length xs) xs
  pub links_are : (i : ℕ) → i < length xs → get_or links i 0 ≡ last_in (bucket_of (get_or xs i 0)) i xs
