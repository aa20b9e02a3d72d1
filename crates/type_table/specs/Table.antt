-- What the table of types says. Total, like the tables of names: a list ends where its count does, or at the first type that is not read.
use Rattle.std.specs.Prelude.{ℕ, zero, suc, ◌+◌, ◌-◌, ◌*◌, ◌/◌, ◌%◌, ◌≤◌, ◌<◌, min, ◌≡◌, List, [], ◌∷◌, ◌++◌, map, Bool, true, false, ◌&&◌, length, get_or, set, drop, eqb, ltb, if◌then◌else◌, Option as Optional, Some, None, Ok, Err}
use Rattle.std.proofs.Math.Option.{Option, none, some}
use Rattle.definition.specs.Basic.{Answer, ok, same_bytes}
use Rattle.definition.specs.Syntax.{Bytes, ValType, FuncType}
use Rattle.definition.specs.Reader.{Reader, ◌>>=◌, give}
use Rattle.definition.specs.Token.{param, val_type}
use Rattle.definition.specs.Binary.{types_size}
use Rattle.definition.specs.Types.{Uses, take_or_add, type_at, type_number, same_type, signature}
use Rattle.syntax.specs.Reads.{maybe, same}
use Rattle.syntax.specs.Refusals.{Resolved, refused_by}
use Rattle.syntax.specs.declared.Refusal.{Refusal}
use Rattle.area.specs.Layout.{HASHES, HEADS, LINKS, SIZE, TOTAL, TYPES, USES}
use Rattle.syntax.specs.TypeUses.{elements, list_of, use_of}
use Rattle.syntax.specs.declared.List as Code
use Rattle.syntax.specs.declared.TypeUse.{TypeUse}
use Rattle.area.specs.Kept.{Kept}
use Rattle.type_table.specs.Hash.{BUCKETS, HALF, bucket_of, hash_of}
use Rattle.type_table.specs.Known.{BothPassable, ReadableSignature}
use Rattle.type_table.specs.Size.{hashed}
use Rattle.type_table.specs.declared.index.Hashed.{Hashed}
use Rattle.type_table.specs.declared.list.NextBoth.{NextBoth}
use Rattle.type_table.specs.declared.list.NextBoth.TheVariants as B
use Rattle.type_table.specs.declared.entry.Signature.{Signature}
use Rattle.type_table.specs.declared.table.Agreement.{Agreement}
use Rattle.type_table.specs.declared.table.Agreement.TheVariants as A

-- ## Lists of value types

-- the value types of a list of parameters, or of one of types
unfoldable pub types_of : Bool → Bytes → Code.List → List ValType
types_of true s l = map (λ p. p.type) (list_of param s l)
types_of false s l = list_of val_type s l

-- one of them: after an identifier or not
abbrev pub typed : Bool → Reader ValType
typed true = param >>= λ p. give p.type
typed false = val_type

-- the types of which the next was read
abbrev pub types_next : Bool → ℕ → Bytes → Optional (ℕ × ℕ) → List ValType
types_next named left s (Some (t, next)) = t ∷ elements (typed named) s next (left - 1)
types_next named left s None = []

-- whether two lists are equal, after their next types were compared: what is left of both decides
abbrev pub both_same : Bytes → Bool → Bool → NextBoth → Bool
both_same s named other (B.Same a b) = same_bytes (types_of named s a) (types_of other s b)
both_same s named other B.Differ = false
both_same s named other B.End = true

-- a list whose next type was read has one left
pub record Left (l : Code.List) (m : Optional (ℕ × ℕ)) : Type 0 where
  pub some : (t q : ℕ) → m ≡ Some (t, q) → 1 ≤ l.count

-- two lists, one type further, by the next type of each
unfoldable pub both_next : Code.List → Optional (ℕ × ℕ) → Code.List → Optional (ℕ × ℕ) → NextBoth
both_next a (Some (x, p)) b (Some (y, q)) = if eqb x y then B.Same (record { at = p; count = a.count - 1 }) (record { at = q; count = b.count - 1 }) else B.Differ
both_next a (Some (x, p)) b None = B.Differ
both_next a None b (Some (y, q)) = B.Differ
both_next a None b None = B.End

-- fewer types are left than so many
abbrev pub BothFewer : NextBoth → ℕ → Type 0
BothFewer (B.Same a b) n = a.count < n
BothFewer B.Differ n = Unit {0}
BothFewer B.End n = Unit {0}

-- two lists, one type further in step
pub record Both (s : Bytes) (named : Bool) (a : Code.List) (other : Bool) (b : Code.List) (r : NextBoth) : Type 0 where
  pub same : same_bytes (types_of named s a) (types_of other s b) ≡ both_same s named other r
  pub fewer : BothFewer r a.count

-- and what is left of both can be read
pub record KnownBoth (s : Bytes) (named : Bool) (a : Code.List) (other : Bool) (b : Code.List) (r : NextBoth) : Type 0 where
  pub both : Both s named a other b r
  pub rest : BothPassable s named other r

-- ## Signatures

unfoldable pub signature_of : Bytes → Signature → FuncType
signature_of s x = record { params = types_of x.named s x.params; results = types_of false s x.results }

-- identifiers stand before the parameters of a use
abbrev pub of_use : TypeUse → Signature
of_use t = record { named = true; params = t.params; results = t.results }

-- the list whose place and count stand at a place of the work area
abbrev pub list_in : List ℕ → ℕ → Code.List
list_in w at = record { at = get_or w at 0; count = get_or w (at + 1) 0 }

-- the entry at a place of the work area
unfoldable pub entry_in : List ℕ → ℕ → Signature
entry_in w at = record { named = eqb (get_or w at 0) 1; params = list_in w (at + 1); results = list_in w (at + 3) }

-- so many entries, the first at a place
unfoldable pub type_table : ℕ → Bytes → List ℕ → ℕ → List FuncType
type_table zero s w at = []
type_table (suc n) s w at = signature_of s (entry_in w at) ∷ type_table n s w (at + 5)

-- all types of the work area
unfoldable pub types_in : Bytes → List ℕ → List FuncType
types_in s w = type_table (min (get_or w TOTAL 0) 256) s w TYPES

abbrev pub number_of : Optional ℕ → Option ℕ
number_of = maybe same

-- what the comparison of a signature with the type that an index names says
abbrev pub agreeing : FuncType → Option FuncType → Agreement
agreeing t none = A.NoType
agreeing t (some u) = if same_type t u then A.Same else A.Differs

-- ## The index over the table

-- A link is the number of a type and one more, or 0. The tree of a bucket begins with the link at its head, and each type there has two
-- branches; of equal types only the first stands in a tree. The way through a tree goes by the bits of the hash, the lowest first.

-- where the tree of a hash begins
abbrev pub head_of : ℕ → ℕ
head_of h = HEADS + bucket_of h

-- the place of a type's branch, by the lowest of the bits
abbrev pub branch_of : ℕ → ℕ → ℕ
branch_of n bits = LINKS + 2 * n + bits % 2

-- the link at a place: to a type whose branches stand after it, whatever the word says
unfoldable pub link_at : List ℕ → ℕ → ℕ
link_at w place = if ltb 256 (get_or w place 0) then 0 else if ltb (place + 2) (LINKS + 2 * get_or w place 0) then get_or w place 0 else 0

-- no type, or one by its number
abbrev pub on_link : {A : Type 0} → ℕ → A → (ℕ → A) → A
on_link zero a f = a
on_link (suc n) a f = f n

-- a type has a hash, by its two words
unfoldable pub hash_is : List ℕ → ℕ → ℕ → Bool
hash_is w n h = eqb (get_or w (HASHES + 2 * n) 0) (h % HALF) && eqb (get_or w (HASHES + 2 * n + 1) 0) (h / HALF)

-- a type is equal to a signature, and has its hash
unfoldable pub is_type : Bytes → List ℕ → FuncType → ℕ → Bool
is_type s w x n = hash_is w n (hash_of x) && same_type x (signature_of s (entry_in w (TYPES + 5 * n)))

-- the type that is found from a place on, at the next `k` places of the way; they rise, so no way has more than the index has words
unfoldable pub in_tree : ℕ → Bytes → List ℕ → FuncType → ℕ → ℕ → Option ℕ
in_tree zero s w x place bits = none
in_tree (suc k) s w x place bits =
    on_link (link_at w place) none (λ n. if is_type s w x n then some n else in_tree k s w x (branch_of n bits) (bits / 2))

-- the type that is found in the tree of a signature's hash
unfoldable pub found_in : Bytes → List ℕ → FuncType → Option ℕ
found_in s w x = in_tree (HASHES - HEADS) s w x (head_of (hash_of x)) (hash_of x)

-- the first place without a type, from a place on
unfoldable pub free_from : ℕ → List ℕ → ℕ → ℕ → ℕ
free_from zero w place bits = place
free_from (suc k) w place bits = on_link (link_at w place) place (λ n. free_from k w (branch_of n bits) (bits / 2))

-- the one on the way of a hash
unfoldable pub free_place : List ℕ → ℕ → ℕ
free_place w h = free_from (HASHES - HEADS) w (head_of h) h

-- the index is true of `count` types: what is found in the tree of a signature's hash is the first equal type, and no link is to a later
-- one. So is the size beside them: it is what the section that is written of them has as its content. And the types can be read
pub record Indexed (s : Bytes) (w : List ℕ) (count : ℕ) : Type 0 where
  pub few : count ≤ 256
  pub low : (i : ℕ) → HEADS ≤ i → i < LINKS + 2 * count → get_or w i 0 ≤ count
  pub each : (x : FuncType) → type_at x (type_table count s w TYPES) ≡ found_in s w x
  pub size : get_or w SIZE 0 ≡ types_size (type_table count s w TYPES)
  pub readable : (n : ℕ) → n < count → ReadableSignature s (entry_in w (TYPES + 5 * n))

-- ## One more type

abbrev pub flag_of : Bool → ℕ
flag_of true = 1
flag_of false = 0

unfoldable pub list_words : Bytes → List ℕ → ℕ → Code.List → List ℕ
list_words s w at l = set (set w at (min l.at (length s))) (at + 1) l.count

unfoldable pub type_words : Bytes → List ℕ → ℕ → Signature → List ℕ
type_words s w at x = list_words s (list_words s (set w at (flag_of x.named)) (at + 1) x.params) (at + 3) x.results

unfoldable pub hash_words : List ℕ → ℕ → ℕ → List ℕ
hash_words w n h = set (set w (HASHES + 2 * n) (h % HALF)) (HASHES + 2 * n + 1) (h / HALF)

-- nothing is on a type's branches
unfoldable pub bare_words : List ℕ → ℕ → List ℕ
bare_words w n = set (set w (LINKS + 2 * n) 0) (LINKS + 2 * n + 1) 0

-- a type stands at the end of its hash's way
unfoldable pub tree_words : List ℕ → ℕ → ℕ → List ℕ
tree_words w n h = set w (free_place w h) (n + 1)

-- of `w` was made `w'`, and only the words from `low` up to `high` may differ
pub record Inside (low high : ℕ) (w w' : List ℕ) : Type 0 where
  pub kept : Kept low w w'
  pub above : drop high w' ≡ drop high w

-- no bucket has a type
pub record HeadsEmptied (w w' : List ℕ) : Type 0 where
  pub none : (b : ℕ) → b < BUCKETS → get_or w' (HEADS + b) 0 ≡ 0
  pub inside : Inside HEADS USES w w'

-- and no section is written
pub record Emptied (w w' : List ℕ) : Type 0 where
  pub heads : HeadsEmptied w w'
  pub size : get_or w' SIZE 0 ≡ 0

-- a signature that is equal to none of `count` types, and what a walk over it tells
pub record Fresh (s : Bytes) (w : List ℕ) (count : ℕ) (x : Signature) (h : Hashed) : Type 0 where
  pub indexed : Indexed s w count
  pub walked : h ≡ hashed (signature_of s x)
  pub missing : type_at (signature_of s x) (type_table count s w TYPES) ≡ none
  pub readable : ReadableSignature s x

-- one that is equal to one of them
pub record Again (s : Bytes) (w : List ℕ) (count : ℕ) (x : Signature) (h : Hashed) : Type 0 where
  pub indexed : Indexed s w count
  pub walked : h ≡ hashed (signature_of s x)
  pub number : ℕ
  pub found : type_at (signature_of s x) (type_table count s w TYPES) ≡ some number
  pub readable : ReadableSignature s x

-- a signature was added to `count` types
pub record Adds (s : Bytes) (w : List ℕ) (count : ℕ) (x : Signature) (w' : List ℕ) : Type 0 where
  pub types : type_table (count + 1) s w' TYPES ≡ type_table count s w TYPES ++ (signature_of s x ∷ [])
  pub indexed : Indexed s w' (count + 1)
  pub inside : Inside (TYPES + 5 * count) USES w w'

-- what the definition makes of one more use
abbrev pub interning : Bytes → List ℕ → ℕ → TypeUse → ℕ → Answer (List FuncType)
interning s w count t r = take_or_add r (signature (use_of s t)) (type_table count s w TYPES) (type_at (signature (use_of s t)) (type_table count s w TYPES))

-- it took or added a type: that type's number is `n`, and there are `k` now
pub record Taken (s : Bytes) (w : List ℕ) (count : ℕ) (t : TypeUse) (r n k : ℕ) (w' : List ℕ) : Type 0 where
  pub types : interning s w count t r ≡ ok (type_table k s w' TYPES)
  pub number : type_at (signature (use_of s t)) (type_table k s w' TYPES) ≡ some n
  pub indexed : Indexed s w' k
  pub inside : Inside (TYPES + 5 * count) USES w w'

-- it was refused, and the work area is as it was
pub record Denied (s : Bytes) (w : List ℕ) (count : ℕ) (t : TypeUse) (r : ℕ) (q : Refusal) (w' : List ℕ) : Type 0 where
  pub says : interning s w count t r ≡ refused_by q
  pub area : w' ≡ w

unfoldable pub Interns : Bytes → List ℕ → ℕ → TypeUse → ℕ → Resolved (ℕ × ℕ) → List ℕ → Type 0
Interns s w count t r (Ok (n, k)) w' = Taken s w count t r n k w'
Interns s w count t r (Err q) w' = Denied s w count t r q w'

-- ## Numbers of uses

-- each use is of one of 4,096 records, and its number stands in the word of its record
unfoldable pub Recalled : List ℕ → List FuncType → Uses → Type 0
Recalled w ts [] = Unit {0}
Recalled w ts ((r, t) ∷ us) = (r < 4096) × (get_or w (USES + r) 0 ≡ type_number t ts) × Recalled w ts us
