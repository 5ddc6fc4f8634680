-- Where the right transducer has no 65,535, the claim is the one that was made without it: the right path of a pair reads what the left one writes, and a
-- pair's output is what its right path writes. Assumes nothing.
use mathlib.Core.Path.{◌≡◌, sym, ◌∙◌}
use mathlib.Core.Bool.{true}
use mathlib.Core.Logic.{◌↔◌}
use mathlib.Core.List.{List}
use Prim.Native.Nat.{ℕ}
use Rattle.transducer.specs.Format.{Transducer, decode}
use Rattle.transducer.specs.Path.{accepts, read_by, written_by}
use Rattle.transducer.specs.Each.{plain}
use Rattle.transducer.proofs.FitPaths.{read_path_fits, path_fits_plain, path_passed_plain}
use Rattle.paths.specs.Answer.{Counted}
use Rattle.paths.specs.Calls.{Telling, told_arcs}
use Rattle.lattice.specs.Application.{lattice_bytes}
use Rattle.compose.specs.Claim.{TwoPaths}
use Rattle.claim.specs.Kind.{Kind, PathsAre, InfinitelyMany, EachOnce, Counts}
use Rattle.claim.specs.Listed.{Lists}
use Rattle.claim.specs.Claim.{Calls, Pair, Pairs, pair_output, pair_cost, lattice_of, leads_to, Claim}

-- A pair in words of labels alone.
pub record ReadPair (left right string : List ℕ) (x : TwoPaths) : Type 0 where
  pub left_accepts : accepts (decode left) x.left ≡ true
  pub left_reads : read_by (decode left) x.left ≡ string
  pub right_accepts : accepts (decode right) x.right ≡ true
  pub meets : written_by (decode left) x.left ≡ read_by (decode right) x.right

abbrev pub ReadPairs : (left right string : List ℕ) → Kind
ReadPairs left right string =
    record {
      Thing = TwoPaths;
      Is = ReadPair left right string;
      input = λ x. read_by (decode left) x.left;
      output = λ x. written_by (decode right) x.right;
      cost = pair_cost left right;
    }

-- The claim, as it was made of them.
pub record ReadClaim {left right string : List ℕ} (c : Calls left right string) : Type 0 where
  pub paths : PathsAre (ReadPairs left right string) (lattice_of c) (leads_to c)
  pub counts : Counts (ReadPairs left right string) c.counting.answer
  pub lists : Lists (ReadPairs left right string) (lattice_bytes c.applying) (leads_to c) c.counting.answer c.telling

-- A kind that has the same things, with the same outputs.
module _ (K : Kind) (Is : K.Thing → Type 0) (output : K.Thing → List ℕ) (there : (x : K.Thing) → K.Is x → Is x)
    (back : (x : K.Thing) → Is x → K.Is x) (same : (x : K.Thing) → K.output x ≡ output x) where
  abbrev Like : Kind
  Like = record { Thing = K.Thing; Is = Is; input = K.input; output = output; cost = K.cost }

  paths_like : (w : Transducer) (to : List ℕ → K.Thing) → PathsAre K w to → PathsAre Like w to
  paths_like w to a =
      record {
        leads = λ p h.
            let s = a.leads p h in
            record { is = there (to p) s.is; reads = s.reads; writes = s.writes ∙ same (to p); costs = s.costs };
        never_two = a.never_two;
        every = λ x h. a.every x (back x h);
      }

  many_like : InfinitelyMany K → InfinitelyMany Like
  many_like many l all = many l (λ x p. all x (there x p))

  like_many : InfinitelyMany Like → InfinitelyMany K
  like_many many l all = many l (λ x p. all x (back x p))

  once_like : (l : List K.Thing) → EachOnce K l → EachOnce Like l
  once_like l o = record { only = λ x m. there x (o.only x m); all = λ x p. o.all x (back x p); once = o.once }

  like_once : (l : List K.Thing) → EachOnce Like l → EachOnce K l
  like_once l o = record { only = λ x m. back x (o.only x m); all = λ x p. o.all x (there x p); once = o.once }

  counts_like : (r : Counted) → Counts K r → Counts Like r
  counts_like r a =
      record {
        endless = (λ e. many_like (a.endless.0 e), λ many. a.endless.1 (like_many many));
        finite = λ few. let f = a.finite (λ many. few (many_like many)) in (f.0, once_like f.0 f.1);
        number = λ l o. a.number l (like_once l o);
      }

  lists_like : (bytes : List ℕ) (to : List ℕ → K.Thing) (r : Counted) (t : Telling bytes r.count) → Lists K bytes to r t → Lists Like bytes to r t
  lists_like bytes to r t a =
      record {
        tells = λ k l.
            let s = a.tells k l in
            let x = to (told_arcs t k) in
            record { well = s.well; accepting = s.accepting; is = there x s.is; output = s.output ∙ same x; cost = s.cost };
        told_once = a.told_once;
        in_order = a.in_order;
        all_told = λ fine few x p. a.all_told fine few x (back x p);
      }

module _ (left right string : List ℕ) (none : plain (decode right) ≡ true) where
  pair_read : (x : TwoPaths) → Pair left right string x → ReadPair left right string x
  pair_read x p =
      record {
        left_accepts = p.left_accepts;
        left_reads = p.left_reads;
        right_accepts = p.right_accepts;
        meets = sym (path_fits_plain (decode right) none (written_by (decode left) x.left) x.right p.meets);
      }

  read_pair : (x : TwoPaths) → ReadPair left right string x → Pair left right string x
  read_pair x p =
      record {
        left_accepts = p.left_accepts;
        left_reads = p.left_reads;
        right_accepts = p.right_accepts;
        meets = rw p.meets (read_path_fits (decode right) x.right);
      }

  pair_written : (x : TwoPaths) → pair_output left right x ≡ written_by (decode right) x.right
  pair_written x = path_passed_plain (decode right) none (written_by (decode left) x.left) x.right

module _ {left right string : List ℕ} (c : Calls left right string) (none : plain (decode right) ≡ true) where
  there : (x : TwoPaths) → Pair left right string x → ReadPair left right string x
  there = pair_read left right string none

  back : (x : TwoPaths) → ReadPair left right string x → Pair left right string x
  back = read_pair left right string none

  written : (x : TwoPaths) → pair_output left right x ≡ written_by (decode right) x.right
  written = pair_written left right string none

  -- The one is the other.
  pub claim_read : Claim c ↔ ReadClaim c
  claim_read = (forth, and_back)
    where
      forth : Claim c → ReadClaim c
      forth h =
          let K = Pairs left right string in
          let Is = ReadPair left right string in
          let output : TwoPaths → List ℕ = λ x. written_by (decode right) x.right in
          record {
            paths = paths_like K Is output there back written (lattice_of c) (leads_to c) h.paths;
            counts = counts_like K Is output there back written c.counting.answer h.counts;
            lists = lists_like K Is output there back written (lattice_bytes c.applying) (leads_to c) c.counting.answer c.telling h.lists;
          }

      and_back : ReadClaim c → Claim c
      and_back h =
          let K = ReadPairs left right string in
          let Is = Pair left right string in
          let output = pair_output left right in
          let same : (x : TwoPaths) → written_by (decode right) x.right ≡ output x = λ x. sym (written x) in
          record {
            paths = paths_like K Is output back there same (lattice_of c) (leads_to c) h.paths;
            counts = counts_like K Is output back there same c.counting.answer h.counts;
            lists = lists_like K Is output back there same (lattice_bytes c.applying) (leads_to c) c.counting.answer c.telling h.lists;
          }
