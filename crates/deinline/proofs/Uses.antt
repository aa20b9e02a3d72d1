-- What is known of every type use of a record's fields is known of those of its entries; and the heads of its functions are small and can be
-- read, as their bodies can to their ends.
use Prim.Native.Nat.{ℕ, ◌+◌, ◌-◌, ◌≤◌, ◌<◌}
use mathlib.Core.Path.{◌≡◌, refl}
use mathlib.Core.Bool.{true}
use mathlib.Core.List.{List, [], ◌∷◌, ◌++◌, map}
use lib.ListN.{length, get_or}
use Rattle.definition.specs.Syntax.{Bytes, Identifier, Space, FuncType, own_index, Field, export_f}
use Rattle.definition.specs.Token as Token
use Rattle.definition.specs.Read.{field_body, source_body, own_body}
use Rattle.definition.specs.Deinline.{fields_of, source_fields}
use Rattle.definition.specs.Types as Types
use Rattle.definition.specs.Types.{Uses, type_number, used_at, field_uses, own_uses, uses}
use Rattle.area.specs.Layout.{USES}
use Rattle.syntax.specs.declared.Part.{Part}
use Rattle.syntax.specs.TypeUses.{list_of, use_of}
use Rattle.syntax.specs.declared.List as Code
use Rattle.syntax.specs.declared.TypeUse.{TypeUse}
use Rattle.syntax.specs.Items.{extern_is}
use Rattle.syntax.specs.declared.Seen.{Seen}
use Rattle.syntax.specs.declared.Own.{Own}
use Rattle.syntax.specs.declared.Own.TheVariants as O
use Rattle.syntax.specs.declared.Source.TheVariants as S
use Rattle.reread.specs.Known.{ReadableHead}
use Rattle.syntax.specs.Fields.{field_of}
use Rattle.syntax.specs.declared.Field as Read
use Rattle.syntax.specs.declared.Field.TheVariants as F
use Rattle.walk.specs.Walk.{whole_field, fields_here}
use Rattle.instr.specs.Bodies.{body_from}
use Rattle.walk.specs.declared.Cursor.{Cursor}
use Rattle.type_table.specs.Table.{Recalled}
use Rattle.deinline.specs.Entry.{uses_of, HeadIn, WholeIn, first_of, item_in, second_of, third_of, Three, three}

-- ## Every use

module _ (P : ℕ → FuncType → Type 0) where
  -- P holds of each use with its record
  abbrev pub All : Uses → Type 0
  All [] = Unit {0}
  All ((r, t) ∷ us) = P r t × All us

  pub all_first : (us vs : Uses) → All (us ++ vs) → All us
  all_first [] vs a = tt
  all_first ((r, t) ∷ us) vs a = (a.0, all_first us vs a.1)

  -- P holds of each use of the three entries
  pub record AllThree (s : Bytes) (r : ℕ) (t : Three) : Type 0 where
    pub first : All (uses_of s r t.first)
    pub second : All (uses_of s r t.second)
    pub third : All (uses_of s r t.third)

  -- an export has no use
  exports_use : (r : ℕ) (k : Space) (n : ℕ) (es : List Bytes) (fs : List (Field Identifier))
      → All (uses (map (λ x. (r, x)) (map (λ e. export_f e k (own_index n)) es ++ fs))) → All (uses (map (λ x. (r, x)) fs))
  unfolding uses field_uses
  exports_use r k n [] fs a = a
  exports_use r k n (e ∷ es) fs a = exports_use r k n es fs a

  module _ (s : Bytes) (c next : Cursor) where
    own-uses : (i : Part) (es : Code.List) (o : Own) (here : ℕ) → let f : Read.Field = F.Item i es (S.Own o) in
        All (uses (fields_here c s (record { field = field_of s f; head_end = here; next = next }))) → AllThree s c.rec (three f c.seen here)
    unfolding fields_here fields_of field_body source_body own_body source_fields uses field_uses own_uses uses_of three first_of item_in second_of third_of
    own-uses i es (O.Func t ls) here a =
        let u = used_at c.rec (Types.use_of (use_of s t)) in
        let b = Types.body_uses (body_from 0 (c.rec + 1) s here).body in
        let all : All (u ++ b) = all_first (u ++ b) [] (exports_use _ _ _ (list_of Token.string s es) _ a) in
        record { first = tt; second = all_first u b all; third = all }
    own-uses i es (O.Table t) here a = record { first = tt; second = tt; third = tt }
    own-uses i es (O.Mem l) here a = record { first = tt; second = tt; third = tt }
    own-uses i es (O.Global t k) here a = record { first = tt; second = tt; third = tt }

    pub uses-here : (f : Read.Field) (here : ℕ)
        → All (uses (fields_here c s (record { field = field_of s f; head_end = here; next = next }))) → AllThree s c.rec (three f c.seen here)
    unfolding fields_here fields_of field_body source_body source_fields uses field_uses uses_of three first_of item_in second_of third_of
    uses-here (F.Type i ps rs) here a = record { first = tt; second = tt; third = tt }
    uses-here (F.Import n i x) here a = record { first = all_first (used_at c.rec (Types.extern_uses (extern_is s x))) [] a; second = tt; third = tt }
    uses-here (F.Export n k x) here a = record { first = tt; second = tt; third = tt }
    uses-here (F.Start x) here a = record { first = tt; second = tt; third = tt }
    uses-here (F.Elem i m xs) here a = record { first = tt; second = tt; third = tt }
    uses-here (F.Data i m d) here a = record { first = tt; second = tt; third = tt }
    uses-here (F.Item i es (S.Own o)) here a = own-uses i es o here a
    uses-here (F.Item i es (S.Imported n x)) here a = record { first = tt; second = all_first (used_at c.rec (Types.extern_uses (extern_is s x))) [] (exports_use _ _ _ (list_of Token.string s es) _ a); third = tt }
    uses-here (F.Item i es (S.TableOf w xs)) here a = record { first = tt; second = tt; third = tt }
    uses-here (F.Item i es (S.MemOf w d)) here a = record { first = tt; second = tt; third = tt }

-- ## Heads are small, and can be read

pub record HeadThree (s : Bytes) (t : Three) : Type 0 where
  pub first : HeadIn s t.first
  pub second : HeadIn s t.second
  pub third : HeadIn s t.third

pub head-here : (s : Bytes) (seen : Seen) (f : Read.Field) (here : ℕ)
    → ((i : Part) (es : Code.List) (t : TypeUse) (ls : Code.List) → f ≡ F.Item i es (S.Own (O.Func t ls)) → (length (use_of s t).params ≤ 64) × (length (list_of Token.param s ls) ≤ 64))
    → ReadableHead s f → HeadThree s (three f seen here)
unfolding three first_of item_in second_of third_of
head-here s seen (F.Type i ps rs) here h known = record { first = tt; second = tt; third = tt }
head-here s seen (F.Import n i x) here h known = record { first = tt; second = tt; third = tt }
head-here s seen (F.Export n k x) here h known = record { first = tt; second = tt; third = tt }
head-here s seen (F.Start x) here h known = record { first = tt; second = tt; third = tt }
head-here s seen (F.Elem i m xs) here h known = record { first = tt; second = tt; third = tt }
head-here s seen (F.Data i m d) here h known = record { first = tt; second = tt; third = tt }
head-here s seen (F.Item i es (S.Own (O.Func t ls))) here h known = record { first = tt; second = tt; third = (let few = h i es t ls refl in record { few_params = few.0; few_locals = few.1; params = known.0; locals = known.1 }) }
head-here s seen (F.Item i es (S.Own (O.Table t))) here h known = record { first = tt; second = tt; third = tt }
head-here s seen (F.Item i es (S.Own (O.Mem l))) here h known = record { first = tt; second = tt; third = tt }
head-here s seen (F.Item i es (S.Own (O.Global t c))) here h known = record { first = tt; second = tt; third = tt }
head-here s seen (F.Item i es (S.Imported n x)) here h known = record { first = tt; second = tt; third = tt }
head-here s seen (F.Item i es (S.TableOf w xs)) here h known = record { first = tt; second = tt; third = tt }
head-here s seen (F.Item i es (S.MemOf w d)) here h known = record { first = tt; second = tt; third = tt }

-- ## Bodies read to their ends

pub record WholeThree (s : Bytes) (r : ℕ) (t : Three) : Type 0 where
  pub first : WholeIn s r t.first
  pub second : WholeIn s r t.second
  pub third : WholeIn s r t.third

pub whole_here : (s : Bytes) (r : ℕ) (seen : Seen) (f : Read.Field) (here : ℕ) → whole_field (field_body (field_of s f)) (r + 1) s here ≡ true → WholeThree s r (three f seen here)
unfolding field_body source_body own_body three first_of item_in second_of third_of
whole_here s r seen (F.Type i ps rs) here h = record { first = tt; second = tt; third = tt }
whole_here s r seen (F.Import n i x) here h = record { first = tt; second = tt; third = tt }
whole_here s r seen (F.Export n k x) here h = record { first = tt; second = tt; third = tt }
whole_here s r seen (F.Start x) here h = record { first = tt; second = tt; third = tt }
whole_here s r seen (F.Elem i m xs) here h = record { first = tt; second = tt; third = tt }
whole_here s r seen (F.Data i m d) here h = record { first = tt; second = tt; third = tt }
whole_here s r seen (F.Item i es (S.Own (O.Func t ls))) here h = record { first = tt; second = tt; third = h }
whole_here s r seen (F.Item i es (S.Own (O.Table t))) here h = record { first = tt; second = tt; third = tt }
whole_here s r seen (F.Item i es (S.Own (O.Mem l))) here h = record { first = tt; second = tt; third = tt }
whole_here s r seen (F.Item i es (S.Own (O.Global t c))) here h = record { first = tt; second = tt; third = tt }
whole_here s r seen (F.Item i es (S.Imported n x)) here h = record { first = tt; second = tt; third = tt }
whole_here s r seen (F.Item i es (S.TableOf w xs)) here h = record { first = tt; second = tt; third = tt }
whole_here s r seen (F.Item i es (S.MemOf w d)) here h = record { first = tt; second = tt; third = tt }

-- ## Numbers in the work area

-- a use's number stands in the word of its record
unfoldable pub Told : List ℕ → List FuncType → ℕ → FuncType → Type 0
Told w ts r t = (r < 4096) × (get_or w (USES + r) 0 ≡ type_number t ts)

pub told-all : (w : List ℕ) (ts : List FuncType) (us : Uses) → Recalled w ts us → All (Told w ts) us
unfolding Recalled Told
told-all w ts [] a = tt
told-all w ts ((r, t) ∷ us) a = ((a.0, a.1), told-all w ts us a.2)

pub all_told : (w : List ℕ) (ts : List FuncType) (us : Uses) → All (Told w ts) us → Recalled w ts us
unfolding Recalled Told
all_told w ts [] a = tt
all_told w ts ((r, t) ∷ us) a = (a.0.0, a.0.1, all_told w ts us a.1)

pub record RecalledThree (w : List ℕ) (ts : List FuncType) (s : Bytes) (r : ℕ) (t : Three) : Type 0 where
  pub first : Recalled w ts (uses_of s r t.first)
  pub second : Recalled w ts (uses_of s r t.second)
  pub third : Recalled w ts (uses_of s r t.third)

-- the numbers of a record's uses are those of its entries
pub recalled-here : (w : List ℕ) (ts : List FuncType) (s : Bytes) (c next : Cursor) (f : Read.Field) (here : ℕ)
    → Recalled w ts (uses (fields_here c s (record { field = field_of s f; head_end = here; next = next }))) → RecalledThree w ts s c.rec (three f c.seen here)
recalled-here w ts s c next f here a =
    let v : AllThree (Told w ts) s c.rec (three f c.seen here) = uses-here (Told w ts) s c next f here (told-all w ts _ a) in
    record { first = all_told w ts _ v.first; second = all_told w ts _ v.second; third = all_told w ts _ v.third }
