-- The fields of the flat records are those of the records, but for the numbers of their bodies' records.
use mathlib.Core.Path.{◌≡◌, refl, sym}
use Prim.Native.Nat.{ℕ, zero, suc, ◌+◌}
use mathlib.Core.Bool.{false, false≢true}
use mathlib.Core.List.{List, [], ◌∷◌, ◌++◌, map}
use mathlib.Core.Option.{Option}
use lib.ListN.{length}
use borrow.Author.Tests.{lt-leb}
use native.Mathlib.Omega.{arith}
use Rattle.definition.specs.Basic.{ok}
use Rattle.definition.specs.Syntax.{Bytes, Identifier, Space, Source, own, imported, table_of, mem_of, own_index}
use Rattle.definition.specs.Syntax.{FieldRec, type_r, import_r, item_r, export_r, start_r, elem_r, data_r, Rec, field, instr, folded, body_end, Body, Field, export_f}
use Rattle.definition.specs.Spaces.{source_space, brings, count}
use Rattle.definition.specs.Read.{Seen, read}
use Rattle.definition.specs.Folded.{Waiting, follow, flatten, body_of}
use Rattle.definition.specs.Deinline.{Numbered, source_fields, fields_of, deinline_from, deinline}
use Rattle.unfolding.specs.FlatStream.{Part, flat_records, is_folded}
use Rattle.unfolding.proofs.FlatOrder.{Waits, followed, none_lost}
use Rattle.unfolding.proofs.Walk.{Walk, done, other, leaf, node}
use Rattle.unfolding.proofs.FlatRead.{Kept, nothing, more, kept-still, records_of, flat_walk}
use Rattle.unfolding.proofs.Numbers.{Paired, none_paired, one_paired}
use Rattle.unfolding.proofs.SameFields.{itself, bodies, SameFields, no_fields, one_more}

-- ## A body

-- an operand is complete: the operators that stand right after it
paired_follow : {seen : Seen} {vs : Waiting Identifier} {ws : Waits} → Kept seen vs ws → (b : Body Identifier) (ps : List Part)
    → ((q : ℕ) → Paired b (flatten q [] (records_of ps))) → (q : ℕ) → Paired (follow vs ++ b) (flatten q [] (records_of (followed ws ++ ps)))
unfolding follow flatten
paired_follow nothing b ps h q = h q
paired_follow (more {n = zero} o k) b ps h q = rw o.is (one_paired (paired_follow k b ps h (q + 1)))
paired_follow (more {n = suc n} o k) b ps h q = rw (lt-leb (suc (suc n)) 1 (omega arith)) (h q)

paired_other : (x : Rec Identifier) (rs ts : List (Rec Identifier)) (r q : ℕ) → is_folded x ≡ false → Paired (flatten (r + 1) [] rs) (flatten (q + 1) [] ts)
    → Paired (flatten r [] (x ∷ rs)) (flatten q [] (x ∷ ts))
unfolding flatten is_folded
paired_other (field f) rs ts r q n h = none_paired
paired_other (instr x) rs ts r q n h = one_paired h
paired_other (folded x k) rs ts r q n h = absurd (false≢true (sym n))
paired_other body_end rs ts r q n h = none_paired

-- a body's instructions are those of the flat body, in their order
paired_body : {seen : Seen} {ws : Waits} {rs : List (Rec Identifier)} {ps : List Part} → Walk seen ws rs ps → {vs : Waiting Identifier} → Kept seen vs ws
    → (r q : ℕ) → Paired (flatten r vs rs) (flatten q [] (records_of ps))
unfolding flatten
paired_body (done e) nothing r q = none_paired
paired_body (other {x = x} {rs = rs} {ps = ps} n i h w) nothing r q = rw i (paired_other x rs (records_of ps) r q n (paired_body w nothing (r + 1) (q + 1)))
paired_body (leaf {ps = ps} o w) k r q = rw o.is (one_paired (paired_follow k _ ps (λ j. paired_body w (kept-still k) (r + 1) j) (q + 1)))
paired_body (node o w) k r q = paired_body w (more {r = r} o k) (r + 1) q

-- ## The fields of one record

module _ (r : ℕ) {gs hs : Numbered Identifier} (rest : SameFields gs hs) {b c : Body Identifier} (p : Paired b c) where
  abbrev at : List (Field Identifier) → Numbered Identifier
  at fs = map (λ f. (r, f)) fs

  same_source : (i : Option Identifier) (n : ℕ) (x : Source Identifier) → SameFields (at (source_fields i n x b) ++ gs) (at (source_fields i n x c) ++ hs)
  unfolding source_fields
  same_source i n (own o) = one_more r (bodies i o p) rest
  same_source i n (imported m d) = one_more r (itself _) rest
  same_source i n (table_of w xs) = one_more r (itself _) (one_more r (itself _) rest)
  same_source i n (mem_of w d) = one_more r (itself _) (one_more r (itself _) rest)

  same_exports : (k : Space) (n : ℕ) (fs us : List (Field Identifier)) → SameFields (at fs ++ gs) (at us ++ hs)
      → (es : List Bytes) → SameFields (at (map (λ e. export_f e k (own_index n)) es ++ fs) ++ gs) (at (map (λ e. export_f e k (own_index n)) es ++ us) ++ hs)
  same_exports k n fs us h [] = h
  same_exports k n fs us h (e ∷ es) = one_more r (itself _) (same_exports k n fs us h es)

  same_record : (next : Space → ℕ) (f : FieldRec Identifier) → SameFields (at (fields_of next f b) ++ gs) (at (fields_of next f c) ++ hs)
  unfolding fields_of
  same_record next (type_r i t) = one_more r (itself _) rest
  same_record next (import_r n i d) = one_more r (itself _) rest
  same_record next (item_r i es x) = same_exports (source_space x) (next (source_space x)) _ _ (same_source i (next (source_space x)) x) es
  same_record next (export_r n k x) = one_more r (itself _) rest
  same_record next (start_r x) = one_more r (itself _) rest
  same_record next (elem_r i m xs) = one_more r (itself _) rest
  same_record next (data_r i m d) = one_more r (itself _) rest

-- ## All fields

-- operators bring none
skip_followed : {seen : Seen} {vs : Waiting Identifier} {ws : Waits} → Kept seen vs ws → (r : ℕ) (sp : List Space) (ps : List Part)
    → deinline_from r sp (records_of (followed ws ++ ps)) ≡ deinline_from (r + length (followed ws)) sp (records_of ps)
unfolding deinline_from
skip_followed nothing r sp ps = let z : r + 0 ≡ r = omega arith in rw z refl
skip_followed (more {n = zero} {ws = ws} o k) r sp ps =
    let z : r + suc (length (followed ws)) ≡ r + 1 + length (followed ws) = omega arith in
    rw (o.is, z) (skip_followed k (r + 1) sp ps)
skip_followed (more {n = suc n} o k) r sp ps = let z : r + 0 ≡ r = omega arith in rw z refl

same-other : (x : Rec Identifier) (rs ts : List (Rec Identifier)) (r : ℕ) (sp : List Space) → is_folded x ≡ false
    → Paired (body_of (r + 1) rs) (body_of (r + 1) ts) → ((sp : List Space) → SameFields (deinline_from (r + 1) sp rs) (deinline_from (r + 1) sp ts))
    → SameFields (deinline_from r sp (x ∷ rs)) (deinline_from r sp (x ∷ ts))
unfolding deinline_from is_folded
same-other (field f) rs ts r sp n p h = same_record r (h (brings f ++ sp)) p (λ k. count k sp) f
same-other (instr x) rs ts r sp n p h = h sp
same-other (folded x k) rs ts r sp n p h = absurd (false≢true (sym n))
same-other body_end rs ts r sp n p h = h sp

-- the parts that wait have been counted among the records, and come later in flat order
same-deinline : {seen : Seen} {ws : Waits} {rs : List (Rec Identifier)} {ps : List Part} → Walk seen ws rs ps → {vs : Waiting Identifier} → Kept seen vs ws
    → (r q : ℕ) → q ≡ r + length ws → (sp : List Space) → SameFields (deinline_from q sp rs) (deinline_from r sp (records_of ps))
unfolding deinline_from
same-deinline (done e) k r q d sp = no_fields
same-deinline (other {x = x} {rs = rs} {ps = ps} n i h w) k r q d sp =
    let z : q ≡ r = omega arith in
    rw (i, z) (same-other x rs (records_of ps) r sp n (unfold body_of in paired_body w nothing (r + 1) (r + 1)) (λ j. same-deinline w nothing (r + 1) (r + 1) (omega arith) j))
same-deinline (leaf {ws = ws} {ps = ps} o w) k r q d sp =
    rw (o.is, skip_followed k (r + 1) sp ps) (same-deinline w (kept-still k) (r + 1 + length (followed ws)) (q + 1) (omega (arith, none_lost ws)) sp)
same-deinline (node o w) k r q d sp = same-deinline w (more {r = 0} o k) r (q + 1) (omega arith) sp

pub flat_fields : (s : Bytes) (rs : List (Rec Identifier)) → read s ≡ ok rs → SameFields (deinline rs) (deinline (flat_records s rs))
unfolding deinline flat_records
flat_fields s rs e = same-deinline (flat_walk s rs e) nothing 0 0 (omega arith) []
