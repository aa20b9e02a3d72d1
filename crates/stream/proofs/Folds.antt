-- A folded record with all its operands: the definition's pass over its records, one by one, goes where the code's recursion goes.
use Rattle.std.specs.Prelude.{if◌then◌else◌}
use mathlib.Core.Path.{◌≡◌, refl, ap, sym, ◌∙◌, subst}
use Prim.Native.Nat.{ℕ, zero, suc, ◌+◌, ◌-◌, ◌≤◌, ◌<◌}
use mathlib.Core.Bool.{Bool, true, false, ◌||◌, false≢true}
use mathlib.Core.List.{List, [], ◌∷◌, append-nil}
use mathlib.Core.Option.{some}
use lib.Dec.{eqb, leb, ltb}
use lib.ListN.{length, get_or}
use borrow.Author.Tests.{lt-ltb, le-ltb, ltb-true, ltb-false, lt-leb, leb-true, leb-false}
use native.Mathlib.Omega.{arith}
use Rattle.definition.specs.Basic.{refused}
use Rattle.definition.specs.Syntax.{Bytes, Identifier, Space, Instr, Rec, field, instr, folded, body_end}
use Rattle.definition.specs.Reader.{Step, got, fault, byte}
use Rattle.definition.specs.Instructions.{Blocks, Inside, is_due, complete, awaiting, folded_after, fold, folded_rec, body_rec, body_begins}
use Rattle.definition.specs.Read as Read
use Rattle.definition.specs.Read.{seen_after, items_after, body_after, started_after, one_record}
use Rattle.laws.proofs.Bodies.{folds}
use Rattle.syntax.specs.declared.Place.{Place}
use Rattle.next_record.specs.Places.{record_past}
use Rattle.next_record.specs.Folds.{Fold, does_of, none_do, both_do, head_of, head_at, on_head, on_fold, on_byte, operands_by, after_f0, folded_at}
use Rattle.next_record.specs.declared.record.Does.{Does}
use Rattle.next_record.specs.Folds as L
use Rattle.stream.specs.Pass.{Passed, pass}
use Rattle.stream.proofs.Model.{pass_end, pass-fault, pass_full, pass-got}

pub or_none : (u : Bool) → u ≡ u || false
or_none true = refl
or_none false = refl

or_more : (t u v : Bool) → (t || u) || v ≡ t || (u || v)
or_more true u v = refl
or_more false u v = refl

-- an operand is complete where one or more were due: one fewer is
complete-one : (n : ℕ) (ds : List ℕ) → complete (suc n ∷ ds) ≡ awaiting n ds
unfolding complete awaiting
complete-one zero ds = refl
complete-one (suc n) ds = let m : suc (suc n) - 1 ≡ suc n = omega arith in rw (lt-leb (suc (suc n)) 1 (omega arith), m)

pub byte-is : (s : Bytes) (at : ℕ) → at < length s → byte s at ≡ got (get_or s at 0) (at + 1)
unfolding byte
byte-is s at h = rw (lt-ltb _ _ h)

module _ (s : Bytes) (items : List Space) (blocks : Blocks) (started used named : Bool) (ends : List ℕ) where
  -- where so many operands are due
  abbrev within : List ℕ → Inside
  within ds = record { blocks = blocks; due = ds }

  abbrev seen_with : List ℕ → Read.Seen
  seen_with ds = record { items = items; body = some (within ds); started = started }

  -- the pass from a place on; `d` is what the folded records before it do
  abbrev from : List ℕ → Does → Place → Passed
  from ds d p = pass (4096 - p.rec) p.rec (seen_with ds) (used || d.uses) (named || d.names) ends s p.at

  record Refuses (x : Passed) (n r : ℕ) : Type 0 where
    pub says : x.says ≡ refused n r
    pub same : x.ends ≡ ends

  -- the pass goes on where the recursion goes on, with these operands due; and it is refused where that is
  abbrev Goes : Passed → List ℕ → Fold → Type 0
  Goes x ds (L.passed d q) = x ≡ from ds d q
  Goes x ds (L.stopped n q) = Refuses x n q.rec

  -- ## One record of it

  module _ (ds : List ℕ) (d : Does) (p : Place) where
    refuses : (n : ℕ) → from ds d p ≡ record { says = refused n p.rec; seen = seen_with ds; ends = ends; named = named || d.names } → Refuses (from ds d p) n p.rec
    refuses n e = record { says = ap (λ (x : Passed). x.says) e; same = ap (λ (x : Passed). x.ends) e }

    -- the stream's end
    at_end_lem : length s ≤ p.at → Refuses (from ds d p) 2 p.rec
    at_end_lem h = refuses 2 (pass_end p.rec (seen_with ds) (used || d.uses) (named || d.names) ends s p.at (4096 - p.rec) h)

    module _ (h : p.at < length s) where
      -- one record too many
      full : (t : Bool) → body_begins (within ds) (get_or s p.at 0) ≡ t → 4096 ≤ p.rec → Refuses (from ds d p) (if t then 7 else 4) p.rec
      full t e l =
          let z : 4096 - p.rec ≡ 0 = omega arith in
          refuses (if t then 7 else 4) (pass_full p.rec (seen_with ds) (used || d.uses) (named || d.names) ends s p.at (4096 - p.rec) h z ∙ rw e)

      module _ (l : p.rec < 4096) where
        faults : (n : ℕ) → body_rec (within ds) s p.at ≡ fault n → Refuses (from ds d p) n p.rec
        unfolding one_record
        faults n e = refuses n (pass-fault p.rec (seen_with ds) (used || d.uses) (named || d.names) ends s p.at (4096 - p.rec) n h (omega arith) e)

        goes_on : (x : Instr Identifier) (n next : ℕ) → body_rec (within ds) s p.at ≡ got (folded x n) next
            → from ds d p ≡ from (awaiting n ds) (both_do d (does_of x)) (record_past p next p.depth)
        unfolding one_record seen_after items_after body_after started_after folded_after both_do does_of record_past
        goes_on x n next e =
            let m : 4096 - p.rec - 1 ≡ 4096 - (p.rec + 1) = omega arith in
            pass-got p.rec (seen_with ds) (used || d.uses) (named || d.names) ends s p.at (4096 - p.rec) (folded x n) next h (omega arith) e
            ∙ rw (m, append-nil, or_more used d.uses, or_more named d.names)

        -- after F0, by how many wait for operands
        deep-read : eqb (get_or s p.at 0) 0xF0 ≡ true → 32 ≤ length ds → body_rec (within ds) s p.at ≡ fault 7
        unfolding body_rec folded_rec
        deep-read z g = rw (byte-is s p.at h, z, le-ltb _ _ g)

        fold-read : eqb (get_or s p.at 0) 0xF0 ≡ true → length ds < 32 → body_rec (within ds) s p.at ≡ fold s (p.at + 1)
        unfolding body_rec folded_rec
        fold-read z g = rw (byte-is s p.at h, z, lt-ltb _ _ g)

        -- another byte where an operand is due
        due-read : eqb (get_or s p.at 0) 0xF0 ≡ false → is_due ds ≡ true → body_rec (within ds) s p.at ≡ fault 4
        unfolding body_rec
        due-read z g = rw (byte-is s p.at h, z, g)

    begins_not : eqb (get_or s p.at 0) 0xF0 ≡ false → is_due ds ≡ true → body_begins (within ds) (get_or s p.at 0) ≡ false
    unfolding body_begins
    begins_not z g = rw (z, g)

    begins-fold : eqb (get_or s p.at 0) 0xF0 ≡ true → body_begins (within ds) (get_or s p.at 0) ≡ true
    unfolding body_begins
    begins-fold z = rw z

    -- F0, or an operand is due
    by_first : (f : ℕ → Fold) → (eqb (get_or s p.at 0) 0xF0 ≡ false → is_due ds ≡ true)
        → (p.at < length s → p.rec < 4096 → eqb (get_or s p.at 0) 0xF0 ≡ true → Goes (from ds d p) (complete ds) (f (p.at + 1)))
        → Goes (from ds d p) (complete ds) (after_f0 f s p)
    unfolding after_f0 byte
    by_first f g k = first (ltb p.at (length s)) refl
      where
        other : (v : Bool) → leb 4096 p.rec ≡ v → p.at < length s → eqb (get_or s p.at 0) 0xF0 ≡ false → Refuses (from ds d p) 4 p.rec
        other true e h z = full h false (begins_not z (g z)) (leb-true _ _ e)
        other false e h z = faults h (leb-false _ _ e) 4 (due-read h (leb-false _ _ e) z (g z))

        third : (v : Bool) → leb 4096 p.rec ≡ v → p.at < length s → eqb (get_or s p.at 0) 0xF0 ≡ true
            → Goes (from ds d p) (complete ds) (if v then L.stopped 7 p else f (p.at + 1))
        third true e h z = full h true (begins-fold z) (leb-true _ _ e)
        third false e h z = k h (leb-false _ _ e) z

        second : (u : Bool) → eqb (get_or s p.at 0) 0xF0 ≡ u → p.at < length s
            → Goes (from ds d p) (complete ds) (if u then (if leb 4096 p.rec then L.stopped 7 p else f (p.at + 1)) else L.stopped 4 p)
        second true z h = third (leb 4096 p.rec) refl h z
        second false z h = other (leb 4096 p.rec) refl h z

        first : (t : Bool) → ltb p.at (length s) ≡ t
            → Goes (from ds d p) (complete ds)
            (on_byte (if t then got (get_or s p.at 0) (p.at + 1) else fault 2)
            (λ b a. if eqb b 0xF0 then (if leb 4096 p.rec then L.stopped 7 p else f a) else L.stopped 4 p) (λ n. L.stopped n p))
        first true e = second (eqb (get_or s p.at 0) 0xF0) refl (ltb-true _ _ e)
        first false e = at_end_lem (ltb-false _ _ e)

  -- ## Operands

  goes_by : (x y : Passed) (ds : List ℕ) (f : Fold) → x ≡ y → Goes y ds f → Goes x ds f
  goes_by x y ds f e g = subst (λ z. Goes z ds f) (sym e) g

  operands_go : (f : Does → Place → Fold) (ds : List ℕ) → ((n : ℕ) (d : Does) (p : Place) → Goes (from (suc n ∷ ds) d p) (complete (suc n ∷ ds)) (f d p))
      → (n : ℕ) (d : Does) (p : Place) → Goes (from (awaiting n ds) d p) (complete ds) (operands_by f n d p)
  unfolding operands_by awaiting
  operands_go f ds h zero d p = refl
  operands_go f ds h (suc n) d p = go (f d p) (h n d p) (λ e q. operands_go f ds h n e q)
    where
      go : (x : Fold) → Goes (from (suc n ∷ ds) d p) (complete (suc n ∷ ds)) x → ((e : Does) (q : Place) → Goes (from (awaiting n ds) e q) (complete ds) (operands_by f n e q))
          → Goes (from (suc n ∷ ds) d p) (complete ds) (on_fold x (λ e q. operands_by f n e q))
      go (L.passed e q) a w =
          goes_by (from (suc n ∷ ds) d p) (from (awaiting n ds) e q) (complete ds) (operands_by f n e q) (a ∙ ap (λ z. from z e q) (complete-one n ds)) (w e q)
      go (L.stopped k q) a w = a

  folded_goes : (left : ℕ) (ds : List ℕ) (d : Does) (p : Place) → length ds + left ≡ 32 → (eqb (get_or s p.at 0) 0xF0 ≡ false → is_due ds ≡ true)
      → Goes (from ds d p) (complete ds) (folded_at left s d p)
  unfolding folded_at head_at is_due
  folded_goes zero ds d p l g = by_first ds d p (λ a. L.stopped 7 p) g (λ h m z. faults ds d p h m 7 (deep-read ds d p h m z (omega arith)))
  folded_goes (suc left) ds d p l g =
      by_first ds d p _ g (λ h m z. go h m z (fold s (p.at + 1)) refl (λ n e q. folded_goes left (suc n ∷ ds) e q (omega arith) (λ _. refl)))
    where
      go : p.at < length s → p.rec < 4096 → eqb (get_or s p.at 0) 0xF0 ≡ true → (m : Step (Rec Identifier)) → fold s (p.at + 1) ≡ m
          → ((n : ℕ) (e : Does) (q : Place) → Goes (from (suc n ∷ ds) e q) (complete (suc n ∷ ds)) (folded_at left s e q))
          → Goes (from ds d p) (complete ds) (on_head (head_of m) (λ e n next. operands_by (folded_at left s) n (both_do d e) (record_past p next p.depth)) (λ n. L.stopped n p))
      go h m z (got (folded x n) next) e ih =
          goes_by (from ds d p) (from (awaiting n ds) (both_do d (does_of x)) (record_past p next p.depth)) (complete ds)
          (operands_by (folded_at left s) n (both_do d (does_of x)) (record_past p next p.depth))
          (goes_on ds d p h m x n next (fold-read ds d p h m z (omega arith) ∙ e))
          (operands_go (folded_at left s) ds ih n (both_do d (does_of x)) (record_past p next p.depth))
      go h m z (got (field f) next) e ih = let i = (folds s (p.at + 1) (field f) next e).is in let o : ◌≡◌ {A = ℕ} 0 1 = cc in absurd (omega arith)
      go h m z (got (instr x) next) e ih = let i = (folds s (p.at + 1) (instr x) next e).is in let o : ◌≡◌ {A = ℕ} 0 1 = cc in absurd (omega arith)
      go h m z (got body_end next) e ih = let i = (folds s (p.at + 1) body_end next e).is in let o : ◌≡◌ {A = ℕ} 0 1 = cc in absurd (omega arith)
      go h m z (fault n) e ih = faults ds d p h m n (fold-read ds d p h m z (omega arith) ∙ e)

-- ## A turn of the pass

-- where no operand was due none is due after it, so the same has been seen
module _ (s : Bytes) (seen : Read.Seen) (blocks : Blocks) (b : seen.body ≡ some (record { blocks = blocks; due = [] })) (used named : Bool) (ends : List ℕ) where
  pub record Stopped (x : Passed) (n r : ℕ) : Type 0 where
    pub says : x.says ≡ refused n r
    pub same : x.ends ≡ ends

  abbrev pub Turned : Passed → Fold → Type 0
  Turned x (L.passed d q) = x ≡ pass (4096 - q.rec) q.rec seen (used || d.uses) (named || d.names) ends s q.at
  Turned x (L.stopped n q) = Stopped x n q.rec

  pub folded-turn : (p : Place) → eqb (get_or s p.at 0) 0xF0 ≡ true → Turned (pass (4096 - p.rec) p.rec seen used named ends s p.at) (folded_at 32 s none_do p)
  unfolding complete
  folded-turn p z = go (folded_at 32 s none_do p) (folded_goes s seen.items blocks seen.started used named ends 32 [] none_do p refl (λ e. absurd (false≢true (sym e ∙ z))))
    where
      is : seen ≡ record { items = seen.items; body = some (record { blocks = blocks; due = [] }); started = seen.started }
      is = ap (λ y. record { items = seen.items; body = y; started = seen.started }) b

      begins : pass (4096 - p.rec) p.rec seen used named ends s p.at ≡ from s seen.items blocks seen.started used named ends [] none_do p
      begins =
          ap (λ y. pass (4096 - p.rec) p.rec y used named ends s p.at) is
          ∙ ap (λ y. pass (4096 - p.rec) p.rec (seen_with s seen.items blocks seen.started used named ends []) y named ends s p.at) (or_none used)
          ∙ ap (λ y. pass (4096 - p.rec) p.rec (seen_with s seen.items blocks seen.started used named ends []) (used || false) y ends s p.at) (or_none named)

      go : (x : Fold) → Goes s seen.items blocks seen.started used named ends (from s seen.items blocks seen.started used named ends [] none_do p) [] x
          → Turned (pass (4096 - p.rec) p.rec seen used named ends s p.at) x
      go (L.passed d q) a = begins ∙ a ∙ ap (λ y. pass (4096 - q.rec) q.rec y (used || d.uses) (named || d.names) ends s q.at) (sym is)
      go (L.stopped n q) a = record { says = ap (λ (x : Passed). x.says) begins ∙ a.says; same = ap (λ (x : Passed). x.ends) begins ∙ a.same }
