-- Demand 3 of the call that also writes the names: it speaks of the bytes before the name section, and says nothing of refusal 18.
use Rattle.std.specs.Prelude.{if◌then◌else◌}
use mathlib.Core.Path.{◌≡◌, refl}
use Prim.Native.Nat.{ℕ, ◌≤◌}
use mathlib.Core.Bool.{Bool, true, false}
use mathlib.Core.List.{List, ◌++◌}
use lib.Dec.{leb}
use lib.ListN.{length}
use lib.Seq.{take-append_seam}
use borrow.Author.Tests.{le-ltb}
use native.Mathlib.Omega.{arith}
use Rattle.definition.specs.Assemble.{longest_stream, least_work}
use Rattle.definition.specs.Basic.{Answer, ok, fails, refused, ◌>>=◌, same_bytes}
use Rattle.definition.specs.Syntax.{Bytes, Identifier, Rec, Item}
use Rattle.definition.specs.Read.{read}
use Rattle.definition.specs.Deinline.{deinline}
use Rattle.definition.specs.Names.{Scope}
use Rattle.definition.specs.Binary.{module', preamble}
use Rattle.definition.specs.NameSection.{name_section}
use Rattle.definition.specs.Assemble.{scope, items_in, items, resolved, fitting, named_module_in, Outcome, say, say_read, assemble_by, output_after, outcome, call_by, call_names, call_strict_names}
use Rattle.renaming.specs.Renamed.{Renamed, names_by, names_of, SaysTheSameBefore}
use Rattle.renaming.proofs.Demand3.{same-items, same_length}

-- the module is made of items that do not know the names
named-is : (strict : Bool) (room : ℕ) (rs : List (Rec Identifier))
    → named_module_in strict room rs ≡ (resolved strict same_bytes rs >>= λ is. fitting room (length rs) (module' is ++ names_of strict rs))
unfolding named_module_in resolved items names_of ◌>>=◌
named-is strict room rs = go (scope strict same_bytes (deinline rs))
  where
    go : (a : Answer (Scope Identifier))
        → (a >>= λ Γ. items_in Γ (deinline rs) >>= λ is. fitting room (length rs) (module' is ++ name_section Γ (deinline rs)))
        ≡ (a >>= (λ Γ. items_in Γ (deinline rs)) >>= λ is. fitting room (length rs) (module' is ++ names_by (deinline rs) a))
    go (ok Γ) = refl
    go (fails q) = refl

-- what a call does with `count` records and the items or refusal `a`
abbrev does : ℕ → Answer (List Item) → Bytes → List ℕ → Bytes → Outcome
does count a section work output = outcome output work (say count (a >>= λ is. fitting (length output) count (module' is ++ section)))

names-call : (strict : Bool) (s : Bytes) (work : List ℕ) (output : Bytes) (rs : List (Rec Identifier)) → length s ≤ longest_stream → least_work ≤ length work → read s ≡ ok rs
    → call_by (named_module_in strict) s work output ≡ does (length rs) (resolved strict same_bytes rs) (names_of strict rs) work output
unfolding call_by assemble_by say_read
names-call strict s work output rs short enough reads =
    rw (le-ltb longest_stream (length s) short, le-ltb (length work) least_work enough, reads, named-is strict (length output) rs) refl

not_empty : (is : List Item) (bs : Bytes) → length (module' is ++ bs) ≡ 0 → ⊥
unfolding module' preamble
not_empty is bs e = omega arith

module _ (count : ℕ) (section section' : Bytes) (work work' : List ℕ) (output output' : Bytes) where
  same-before : (a : Answer (List Item)) → ((does count a section work output).number ≡ 18 → ⊥) → ((does count a section' work' output').number ≡ 18 → ⊥)
      → SaysTheSameBefore section section' (does count a section work output) (does count a section' work' output')
  unfolding outcome say output_after fitting ◌>>=◌
  same-before (fails q) h h' = record { number = refl; rec = refl; first = refl; nothing = (λ e. e, λ e. e); something = λ e. absurd (e refl) }
  same-before (ok is) h h' = go (leb (length (module' is ++ section)) (length output)) (leb (length (module' is ++ section')) (length output')) h h'
    where
      at : (output : Bytes) (work : List ℕ) (section : Bytes) → Bool → Outcome
      at output work section t = outcome output work (say count (if t then ok (module' is ++ section) else refused 18 count))

      go : (t t' : Bool) → ((at output work section t).number ≡ 18 → ⊥) → ((at output' work' section' t').number ≡ 18 → ⊥)
          → SaysTheSameBefore section section' (at output work section t) (at output' work' section' t')
      go false t' h h' = absurd (h refl)
      go true false h h' = absurd (h' refl)
      go true true h h' = record {
        number = refl;
        rec = refl;
        first = refl;
        nothing = (λ e. absurd (not_empty is section e), λ e. absurd (not_empty is section' e));
        something = λ _. record { before = module' is; bytes = take-append_seam _ _; bytes' = take-append_seam _ _ };
      }

-- the plain call with names, and the strict one
pub demand_3_names_by : (strict : Bool) (s t : Bytes) (work work' : List ℕ) (output output' : Bytes)
    → least_work ≤ length work → least_work ≤ length work' → (d : Renamed s t)
    → ((call_by (named_module_in strict) s work output).number ≡ 18 → ⊥) → ((call_by (named_module_in strict) t work' output').number ≡ 18 → ⊥)
    → SaysTheSameBefore (names_of strict d.first) (names_of strict d.second) (call_by (named_module_in strict) s work output) (call_by (named_module_in strict) t work' output')
demand_3_names_by strict s t work work' output output' h h' d =
    let l = same_length d.first d.second d.same_shape d.alike in
    let i = same-items d.first d.second d.same_shape d.alike strict in
    rw (names-call strict s work output d.first d.short h d.reads, names-call strict t work' output' d.second d.short' h' d.reads', l, i)
    (same-before (length d.second) (names_of strict d.first) (names_of strict d.second) work work' output output' (resolved strict same_bytes d.second))

pub demand_3_names : (s t : Bytes) (work work' : List ℕ) (output output' : Bytes)
    → least_work ≤ length work → least_work ≤ length work' → (d : Renamed s t)
    → ((call_names s work output).number ≡ 18 → ⊥) → ((call_names t work' output').number ≡ 18 → ⊥)
    → SaysTheSameBefore (names_of false d.first) (names_of false d.second) (call_names s work output) (call_names t work' output')
unfolding call_names
demand_3_names = demand_3_names_by false

pub demand_3_strict_names : (s t : Bytes) (work work' : List ℕ) (output output' : Bytes)
    → least_work ≤ length work → least_work ≤ length work' → (d : Renamed s t)
    → ((call_strict_names s work output).number ≡ 18 → ⊥) → ((call_strict_names t work' output').number ≡ 18 → ⊥)
    → SaysTheSameBefore (names_of true d.first) (names_of true d.second) (call_strict_names s work output) (call_strict_names t work' output')
unfolding call_strict_names
demand_3_strict_names = demand_3_names_by true
