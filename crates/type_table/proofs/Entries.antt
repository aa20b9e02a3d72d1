-- Plain mathematics of one type of the table: read, compared with another, written.
use Prim.Native.Nat.{ℕ, zero, suc, ◌+◌, ◌-◌, ◌≤◌, ◌<◌, min}
use mathlib.Core.Path.{◌≡◌, refl, sym, ◌∙◌, ap}
use mathlib.Core.Bool.{Bool, true, false}
use mathlib.Core.List.{List, [], ◌∷◌}
use lib.ListN.{length, get_or, set, drop, length-set}
use lib.Seq.{get_or-set_same, get_or-set_other, get_or-drop}
use lib.Dec.{eqb}
use native.Mathlib.Decide.{dec_le}
use native.Mathlib.Omega.{arith}
use Rattle.definition.specs.Basic.{same_bytes}
use Rattle.definition.specs.Syntax.{Bytes}
use Rattle.definition.specs.Reader.{fault}
use Rattle.definition.specs.Token.{param, val_type, identifier, up_to, u32, groups}
use Rattle.definition.specs.Types.{same_type, signature}
use Rattle.laws.proofs.Readers.{byte_out}
use Rattle.syntax.specs.TypeUses.{elements, use_of}
use Rattle.syntax.specs.declared.List as Code
use Rattle.syntax.specs.declared.TypeUse.{TypeUse}
use Rattle.area.specs.Kept.{Kept}
use Rattle.area.proofs.Kept.{kept_set, kept_then, kept_word}
use Rattle.type_table.specs.Table.{types_of, typed, signature_of, of_use, list_in, entry_in, flag_of, list_words, type_words, Inside}
use Rattle.type_table.specs.declared.entry.Signature.{Signature}
use Rattle.type_table.proofs.Lists.{types_are}

-- ## Read

pub list_in_lem : (w : List ℕ) (at x : ℕ) → x ≡ get_or w at 0 → record { at = x; count = get_or w (at + 1) 0 } ≡ list_in w at
list_in_lem w at x e = rw e

pub entry_in_lem : (w : List ℕ) (at : ℕ) (p r : Code.List) → p ≡ list_in w (at + 1) → r ≡ list_in w (at + 3)
    → record { named = eqb (get_or w at 0) 1; params = p; results = r } ≡ entry_in w at
unfolding entry_in
entry_in_lem w at p r d e = rw (d, e)

pub use_signature : (s : Bytes) (t : TypeUse) → signature_of s (of_use t) ≡ signature (use_of s t)
unfolding signature_of signature types_of
use_signature s t = refl

-- ## Two signatures

-- the parameters decide where they differ, and else the results
module _ (s : Bytes) (x y : Signature) (f : Bool) (e : f ≡ same_bytes (types_of x.named s x.params) (types_of y.named s y.params)) where
  pub same_not : f ≡ false → false ≡ same_type (signature_of s x) (signature_of s y)
  unfolding same_type signature_of
  same_not d = sym (rw (← e, d))

  pub same-results : (g : Bool) → f ≡ true → g ≡ same_bytes (types_of false s x.results) (types_of false s y.results) → g ≡ same_type (signature_of s x) (signature_of s y)
  unfolding same_type signature_of
  same-results g d h = h ∙ sym (rw (← e, d))

-- ## Places past the stream's end

-- nothing is read there
pub typed_out : (named : Bool) (s : Bytes) (at : ℕ) → length s ≤ at → typed named s at ≡ fault 2
unfolding param identifier up_to u32 groups val_type
typed_out true s at h = rw (byte_out s at h)
typed_out false s at h = rw (byte_out s at h)

elements_out : (named : Bool) (s : Bytes) (n at : ℕ) → length s ≤ at → elements (typed named) s at n ≡ []
unfolding elements
elements_out named s zero at h = refl
elements_out named s (suc n) at h = rw (typed_out named s at h)

-- a place past it is as good as its end
abbrev pub clip : Bytes → Code.List → Code.List
clip s l = record { at = min l.at (length s); count = l.count }

abbrev pub clipped : Bytes → Signature → Signature
clipped s x = record { named = x.named; params = clip s x.params; results = clip s x.results }

types_clip : (named : Bool) (s : Bytes) (l : Code.List) → types_of named s (clip s l) ≡ types_of named s l
types_clip named s l = types_are named s (clip s l) ∙ go (dec_le (length s) l.at) ∙ sym (types_are named s l)
  where
    go : Dec (length s ≤ l.at) → elements (typed named) s (min l.at (length s)) l.count ≡ elements (typed named) s l.at l.count
    go (yes h) =
        let m : length s ≤ min l.at (length s) = omega arith in
        elements_out named s l.count (min l.at (length s)) m ∙ sym (elements_out named s l.count l.at h)
    go (no h) = let m : min l.at (length s) ≡ l.at = omega arith in rw m

-- ## Only some words differ

drop-set : (n i v : ℕ) (w : List ℕ) → i < n → drop n (set w i v) ≡ drop n w
drop-set zero i v w h = absurd (omega arith)
drop-set (suc n) i v [] h = refl
drop-set (suc n) zero v (x ∷ w) h = refl
drop-set (suc n) (suc i) v (x ∷ w) h = drop-set n i v w (omega arith)

pub inside-same : (low high : ℕ) (w : List ℕ) → Inside low high w w
inside-same low high w = record { kept = record { low = refl; long = refl }; above = refl }

pub inside-set : (low high i v : ℕ) (w : List ℕ) → low ≤ i → i < high → Inside low high w (set w i v)
inside-set low high i v w g h = record { kept = kept_set low i v w g; above = drop-set high i v w h }

pub inside_then : {low high : ℕ} {a b c : List ℕ} → Inside low high a b → Inside low high b c → Inside low high a c
inside_then x y = record { kept = kept_then x.kept y.kept; above = y.above ∙ x.above }

-- a word after them
pub inside-above : {low high : ℕ} {w w' : List ℕ} → Inside low high w w' → (i : ℕ) → high ≤ i → get_or w' i 0 ≡ get_or w i 0
inside-above {low} {high} {w} {w'} v i h =
    let j : high + (i - high) ≡ i = omega arith in
    rw j at (sym (get_or-drop high w' (i - high) 0) ∙ ap (λ (l : List ℕ). get_or l (i - high) 0) v.above ∙ get_or-drop high w (i - high) 0)

-- an entry before them
pub entry_kept : {w w' : List ℕ} (at m : ℕ) → at + 5 ≤ m → Kept m w w' → entry_in w' at ≡ entry_in w at
unfolding entry_in
entry_kept at m h k =
    rw (
      kept_word k at (omega arith),
      kept_word k (at + 1) (omega arith),
      kept_word k (at + 1 + 1) (omega arith),
      kept_word k (at + 3) (omega arith),
      kept_word k (at + 3 + 1) (omega arith),
    )

-- ## Written

pub list_words_lem : (s w : List ℕ) (at : ℕ) (l : Code.List) (x : ℕ) → x ≡ min l.at (length s) → set (set w at x) (at + 1) l.count ≡ list_words s w at l
unfolding list_words
list_words_lem s w at l x e = rw e

pub flag_word : (w : List ℕ) (at f : ℕ) (named : Bool) → f ≡ flag_of named → set w at f ≡ set w at (flag_of named)
flag_word w at f named e = rw e

pub type_words_lem : (s w : List ℕ) (at : ℕ) (x : Signature) (a b c : List ℕ) → a ≡ set w at (flag_of x.named) → b ≡ list_words s a (at + 1) x.params
    → c ≡ list_words s b (at + 3) x.results → c ≡ type_words s w at x
unfolding type_words
type_words_lem s w at x a b c p q r = r ∙ rw (q, p)

module _ (s w : List ℕ) (at : ℕ) (l : Code.List) where
  abbrev place : ℕ
  place = min l.at (length s)

  list_length : length (list_words s w at l) ≡ length w
  unfolding list_words
  list_length = length-set (set w at place) (at + 1) l.count ∙ length-set w at place

  list_below : (i : ℕ) → i < at → get_or (list_words s w at l) i 0 ≡ get_or w i 0
  unfolding list_words
  list_below i h = get_or-set_other (set w at place) (at + 1) i _ 0 (λ e. omega arith) ∙ get_or-set_other w at i _ 0 (λ e. omega arith)

  list_place : at < length w → get_or (list_words s w at l) at 0 ≡ place
  unfolding list_words
  list_place h = get_or-set_other (set w at place) (at + 1) at _ 0 (λ e. omega arith) ∙ get_or-set_same w at _ 0 h

  list_count : (i : ℕ) → i ≡ at + 1 → i < length w → get_or (list_words s w at l) i 0 ≡ l.count
  unfolding list_words
  list_count i d h = (let e : length (set w at place) ≡ length w = length-set w at place in rw d (get_or-set_same (set w at place) (at + 1) _ 0 (omega arith)))

  list_inside : (low high : ℕ) → low ≤ at → at + 1 < high → Inside low high w (list_words s w at l)
  unfolding list_words
  list_inside low high g h = inside_then (inside-set low high at place w g (omega arith)) (inside-set low high (at + 1) l.count (set w at place) (omega arith) h)

flag-named : (named : Bool) → eqb (flag_of named) 1 ≡ named
flag-named true = refl
flag-named false = refl

module _ (s w : List ℕ) (at : ℕ) (x : Signature) where
  abbrev w1 : List ℕ
  w1 = set w at (flag_of x.named)

  abbrev w2 : List ℕ
  w2 = list_words s w1 (at + 1) x.params

  pub type-inside : (low high : ℕ) → low ≤ at → at + 4 < high → Inside low high w (type_words s w at x)
  unfolding type_words
  type-inside low high g h =
      inside_then (inside-set low high at (flag_of x.named) w g (omega arith))
      (inside_then (list_inside s w1 (at + 1) x.params low high (omega arith) (omega arith))
      (list_inside s w2 (at + 3) x.results low high (omega arith) (omega arith)))

  -- the entry that was written, its places within the stream
  pub entry-written : at + 4 < length w → entry_in (type_words s w at x) at ≡ clipped s x
  unfolding type_words entry_in
  entry-written h =
      let l1 : length w1 ≡ length w = length-set w at (flag_of x.named) in
      let l2 : length w2 ≡ length w = list_length s w1 (at + 1) x.params ∙ l1 in
      let e0 : get_or (list_words s w2 (at + 3) x.results) at 0 ≡ flag_of x.named =
      list_below s w2 (at + 3) x.results at (omega arith) ∙ list_below s w1 (at + 1) x.params at (omega arith) ∙ get_or-set_same w at (flag_of x.named) 0 (omega arith) in
      let e1 : get_or (list_words s w2 (at + 3) x.results) (at + 1) 0 ≡ min x.params.at (length s) =
      list_below s w2 (at + 3) x.results (at + 1) (omega arith) ∙ list_place s w1 (at + 1) x.params (omega arith) in
      let e2 : get_or (list_words s w2 (at + 3) x.results) (at + 1 + 1) 0 ≡ x.params.count =
      list_below s w2 (at + 3) x.results (at + 1 + 1) (omega arith) ∙ list_count s w1 (at + 1) x.params (at + 1 + 1) (omega arith) (omega arith) in
      let e3 : get_or (list_words s w2 (at + 3) x.results) (at + 3) 0 ≡ min x.results.at (length s) = list_place s w2 (at + 3) x.results (omega arith) in
      let e4 : get_or (list_words s w2 (at + 3) x.results) (at + 3 + 1) 0 ≡ x.results.count = list_count s w2 (at + 3) x.results (at + 3 + 1) (omega arith) (omega arith) in
      rw (e0, e1, e2, e3, e4, flag-named x.named)

  -- it says what was meant
  pub type-written : at + 4 < length w → signature_of s (entry_in (type_words s w at x) at) ≡ signature_of s x
  unfolding signature_of
  type-written h = ap (signature_of s) (entry-written h) ∙ rw (types_clip x.named s x.params, types_clip false s x.results)
