-- The code's counts are the definition's, 256 at most, so both leave the same room.
use Rattle.std.specs.Prelude.{if◌then◌else◌}
use mathlib.Core.Path.{◌≡◌, refl, ap, sym, ◌∙◌}
use Prim.Native.Nat.{ℕ, ◌+◌, ◌≤◌, ◌<◌, min}
use mathlib.Core.Bool.{Bool, true, false, not}
use mathlib.Core.List.{List, [], ◌∷◌, ◌++◌}
use lib.Dec.{eqb, ltb}
use lib.ListN.{length, get_or, set, length-set}
use lib.Seq.{get_or-set_same, get_or-set_other}
use borrow.Author.Tests.{eqb-true, eqb-false, lt-ltb, le-ltb}
use native.Mathlib.Omega.{arith}
use native.Mathlib.Decide.{dec_le}
use Rattle.definition.specs.Syntax as Syntax
use Rattle.definition.specs.Syntax.{Bytes, Identifier, Space, funcs, tables, mems, globals, types, elems, datas, code, field, instr, body_end}
use Rattle.definition.specs.Spaces.{extern_space, own_space, source_space, segments, brings, count}
use Rattle.definition.specs.Read as Read
use Rattle.definition.specs.Read.{room, seen_after, items_after, started_after, is_start}
use Rattle.syntax.specs.Items.{room_of, extern_is, own_of, source_of, none_seen}
use Rattle.syntax.specs.declared.Seen.{Seen}
use Rattle.syntax.specs.declared.Extern.{Extern}
use Rattle.syntax.specs.declared.Extern.TheVariants as E
use Rattle.syntax.specs.declared.Own.{Own}
use Rattle.syntax.specs.declared.Own.TheVariants as O
use Rattle.syntax.specs.declared.Source.{Source}
use Rattle.syntax.specs.declared.Source.TheVariants as S
use Rattle.syntax.specs.Fields.{field_of}
use Rattle.syntax.specs.declared.Field.{Field}
use Rattle.syntax.specs.declared.Field.TheVariants as F
use Rattle.counting.specs.Counting.{count_words}
use Rattle.counting.specs.Counting.{up, one_more, extern_brings, own_brings, source_brings, field_seen}

-- ## Counts of a list of items

pub record Holds (items : List Space) (counts : List ℕ) : Type 0 where
  pub each : (k : Space) → get_or counts (code k) 0 ≡ min (count k items) 256
  pub seven : length counts ≡ 7

up_min : (n : ℕ) → up (min n 256) ≡ min (1 + n) 256
unfolding up
up_min n = go (dec_le 256 n)
  where
    go : Dec (256 ≤ n) → (if ltb (min n 256) 256 then min n 256 + 1 else min n 256) ≡ min (1 + n) 256
    go (yes h) = let e : min n 256 ≡ 256 = omega arith in let d : min (1 + n) 256 ≡ 256 = omega arith in rw (e, d)
    go (no h) = let e : min n 256 ≡ n = omega arith in let l : n < 256 = omega arith in rw (e, lt-ltb _ _ l) (omega arith)

code_small : (k : Space) → code k < 7
code_small funcs = omega arith
code_small tables = omega arith
code_small mems = omega arith
code_small globals = omega arith
code_small types = omega arith
code_small elems = omega arith
code_small datas = omega arith

-- one item more
pub holds_more : (j : Space) {items : List Space} {counts : List ℕ} → Holds items counts → Holds (j ∷ items) (set counts (code j) (up (get_or counts (code j) 0)))
unfolding count
holds_more j {items} {counts} h = record { each = λ k. go k (eqb (code k) (code j)) refl; seven = length-set counts (code j) (up (get_or counts (code j) 0)) ∙ h.seven }
  where
    go : (k : Space) (t : Bool) → eqb (code k) (code j) ≡ t
        → get_or (set counts (code j) (up (get_or counts (code j) 0))) (code k) 0 ≡ min ((if t then 1 else 0) + count k items) 256
    go k true e =
        let d : code k ≡ code j = eqb-true _ _ e in
        let l : code j < length counts = omega (arith, code_small j, h.seven) in
        rw (d, get_or-set_same counts (code j) (up (get_or counts (code j) 0)) 0 l, ← d, h.each k) (up_min (count k items))
    go k false e =
        rw (get_or-set_other counts (code j) (code k) (up (get_or counts (code j) 0)) 0 (eqb-false _ _ e)) (h.each k ∙ omega arith)

-- ## Counts of what has been seen

pub record Counts (d : Read.Seen) (c : Seen) : Type 0 where
  pub items : Holds d.items c.counts
  pub started : d.started ≡ c.started

pub counts-none : Counts Read.nothing_seen none_seen
unfolding Read.nothing_seen count
counts-none = record { items = record { each = none; seven = refl }; started = refl }
  where
    none : (k : Space) → get_or none_seen.counts (code k) 0 ≡ 0
    none funcs = refl
    none tables = refl
    none mems = refl
    none globals = refl
    none types = refl
    none elems = refl
    none datas = refl

pub extern_brings_lem : (s : Bytes) (x : Extern) → extern_brings x ≡ extern_space (extern_is s x)
unfolding extern_space
extern_brings_lem s (E.Func t) = refl
extern_brings_lem s (E.Table t) = refl
extern_brings_lem s (E.Mem l) = refl
extern_brings_lem s (E.Global t) = refl

pub own-brings : (s : Bytes) (o : Own) → own_brings o ≡ own_space (own_of s o)
unfolding own_space
own-brings s (O.Func t ls) = refl
own-brings s (O.Table t) = refl
own-brings s (O.Mem l) = refl
own-brings s (O.Global t c) = refl

module _ (s : Bytes) (items : List Space) (c : Seen) (h : Holds items c.counts) where
  source-brings : (x : Source) → Holds ((source_space (source_of s x) ∷ segments (source_of s x)) ++ items) (source_brings c x).counts
  unfolding source_space segments one_more
  source-brings (S.Own o) = rw (← own-brings s o) (holds_more (own_brings o) h)
  source-brings (S.Imported n x) = rw (← extern_brings_lem s x) (holds_more (extern_brings x) h)
  source-brings (S.TableOf w xs) = holds_more tables (holds_more elems h)
  source-brings (S.MemOf w d) = holds_more mems (holds_more datas h)

source-started : (c : Seen) (x : Source) → (source_brings c x).started ≡ c.started
unfolding one_more
source-started c (S.Own o) = refl
source-started c (S.Imported n x) = refl
source-started c (S.TableOf w xs) = refl
source-started c (S.MemOf w d) = refl

-- a field
pub counts-field : (s : Bytes) (d : Read.Seen) (c : Seen) (f : Field) → Counts d c → Counts (seen_after d (field (field_of s f))) (field_seen c f)
unfolding seen_after items_after started_after is_start brings one_more
counts-field s d c (F.Type i ps rs) h = record { items = holds_more types h.items; started = h.started }
counts-field s d c (F.Import n i x) h = record { items = rw (← extern_brings_lem s x) (holds_more (extern_brings x) h.items); started = h.started }
counts-field s d c (F.Item i es x) h = record { items = source-brings s d.items c h.items x; started = h.started ∙ sym (source-started c x) }
counts-field s d c (F.Export n k x) h = record { items = h.items; started = h.started }
counts-field s d c (F.Start x) h = record { items = h.items; started = refl }
counts-field s d c (F.Elem i m xs) h = record { items = holds_more elems h.items; started = h.started }
counts-field s d c (F.Data i m b) h = record { items = holds_more datas h.items; started = h.started }

-- an instruction, and a body's end
pub counts-instr : (d : Read.Seen) (c : Seen) (x : Syntax.Instr Identifier) → Counts d c → Counts (seen_after d (instr x)) c
unfolding seen_after items_after started_after
counts-instr d c x h = record { items = h.items; started = h.started }

pub counts_end : (d : Read.Seen) (c : Seen) → Counts d c → Counts (seen_after {I = Identifier} d body_end) c
unfolding seen_after items_after started_after
counts_end d c h = record { items = h.items; started = h.started }

-- ## The room that they leave

below : (n : ℕ) → ltb n 256 ≡ ltb (min n 256) 256
below n = go (dec_le 256 n)
  where
    go : Dec (256 ≤ n) → ltb n 256 ≡ ltb (min n 256) 256
    go (yes h) = let e : min n 256 ≡ 256 = omega arith in rw (e, le-ltb _ _ h)
    go (no h) = let e : min n 256 ≡ n = omega arith in rw e

pub room-same : {d : Read.Seen} {c : Seen} → Counts d c → room d ≡ room_of c
unfolding room room_of
room-same {d} {c} h = λ i. record { item = λ k. same k i; start = not (h.started i) }
  where
    same : (k : Space) → ltb (count k d.items) 256 ≡ ltb (get_or c.counts (code k) 0) 256
    same k = below (count k d.items) ∙ ap (λ n. ltb n 256) (sym (h.items.each k))

-- ## The words that are left

seven_words : (xs : List ℕ) → length xs ≡ 7
    → xs ≡ get_or xs 0 0 ∷ get_or xs 1 0 ∷ get_or xs 2 0 ∷ get_or xs 3 0 ∷ get_or xs 4 0 ∷ get_or xs 5 0 ∷ get_or xs 6 0 ∷ []
seven_words (a ∷ b ∷ c ∷ d ∷ e ∷ f ∷ g ∷ []) h = refl
seven_words [] h = absurd (omega arith)
seven_words (a ∷ []) h = absurd (omega arith)
seven_words (a ∷ b ∷ []) h = absurd (omega arith)
seven_words (a ∷ b ∷ c ∷ []) h = absurd (omega arith)
seven_words (a ∷ b ∷ c ∷ d ∷ []) h = absurd (omega arith)
seven_words (a ∷ b ∷ c ∷ d ∷ e ∷ []) h = absurd (omega arith)
seven_words (a ∷ b ∷ c ∷ d ∷ e ∷ f ∷ []) h = absurd (omega arith)
seven_words (a ∷ b ∷ c ∷ d ∷ e ∷ f ∷ g ∷ i ∷ xs) h = absurd (omega arith)

pub counts_words : {d : Read.Seen} {c : Seen} → Counts d c → c.counts ≡ count_words d
unfolding count_words
counts_words {d} {c} h =
    seven_words c.counts h.items.seven
    ∙ rw (h.items.each funcs, h.items.each tables, h.items.each mems, h.items.each globals, h.items.each types, h.items.each elems, h.items.each datas)
