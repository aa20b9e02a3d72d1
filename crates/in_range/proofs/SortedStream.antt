-- The fields of a stream that was read are sorted as its records are: what each record brings is within what there is.
use mathlib.Core.Path.{◌≡◌, subst}
use Prim.Native.Nat.{ℕ, ◌+◌, ◌≤◌}
use mathlib.Core.List.{List, [], ◌∷◌, ◌++◌, map}
use native.Mathlib.Omega.{arith}
use Rattle.definition.specs.Basic.{ok}
use Rattle.definition.specs.Syntax.{Bytes, Identifier, Space, Rec, field, instr, folded, body_end}
use Rattle.definition.specs.Read.{read}
use Rattle.definition.specs.Spaces.{brings, count}
use Rattle.definition.specs.Folded.{body_of}
use Rattle.definition.specs.Deinline.{fields_of, deinline_from, deinline}
use Rattle.in_range.specs.InRange.{Every}
use Rattle.in_range.proofs.Gives.{every_append, every_map}
use Rattle.in_range.proofs.Counts.{spaces, count-append}
use Rattle.in_range.proofs.Brings.{record_brings}
use Rattle.in_range.proofs.SortedFields.{RecSorted, NumberedSorted, body_of_sorted, fields_sorted, read_sorted}

module _ {I : Type 0} (items : Space → ℕ) where
  -- what was seen and what comes is within what there is
  from_sorted : (r : ℕ) (seen : List Space) (rs : List (Rec I)) → Every RecSorted rs
      → ((k : Space) → count k seen + count k (spaces (deinline_from r seen rs)) ≤ items k) → Every (NumberedSorted items) (deinline_from r seen rs)
  unfolding deinline_from
  from_sorted r seen [] h l = tt
  from_sorted r seen (field f ∷ rs) h l =
      let next : Space → ℕ = λ k. count k seen in
      let fs = fields_of next f (body_of (r + 1) rs) in
      let later = deinline_from (r + 1) (brings f ++ seen) rs in
      let coming : Space → ℕ = λ k. count k (brings f) + count k (spaces later) in
      let within : (k : Space) → next k + coming k ≤ items k = λ k. subst (λ n. next k + n ≤ items k) (record_brings k r next f (body_of (r + 1) rs) later) (l k) in
      every_append (NumberedSorted items) (map (λ x. (r, x)) fs) later
      (every_map (NumberedSorted items) (λ x. (r, x)) fs
      (fields_sorted items (body_of (r + 1) rs) (body_of_sorted (r + 1) rs h.1) next f h.0 (λ k. let w = within k in omega arith)))
      (from_sorted (r + 1) (brings f ++ seen) rs h.1 (λ k. let w = within k in rw (count-append k (brings f) seen) (omega arith)))
  from_sorted r seen (instr x ∷ rs) h l = from_sorted (r + 1) seen rs h.1 l
  from_sorted r seen (folded x n ∷ rs) h l = from_sorted (r + 1) seen rs h.1 l
  from_sorted r seen (body_end ∷ rs) h l = from_sorted (r + 1) seen rs h.1 l

-- the fields of a stream that was read
pub stream_sorted : (s : Bytes) (rs : List (Rec Identifier)) → read s ≡ ok rs
    → (items : Space → ℕ) → ((k : Space) → count k (spaces (deinline rs)) ≤ items k) → Every (NumberedSorted items) (deinline rs)
unfolding deinline
stream_sorted s rs e items l = from_sorted items 0 [] rs ((read_sorted s).of rs e) λ k. let h = l k in unfold count in omega arith
