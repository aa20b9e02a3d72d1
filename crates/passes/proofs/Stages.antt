-- The last stage: the fields, resolved.
use Rattle.std.specs.Prelude.{Ok, Err, IsErrAnd}
use Rattle.std.specs.Result.{IsErr}
use Rattle.syntax.specs.Refusals.{Resolved}
use Prim.Native.Nat.{ℕ}
use mathlib.Core.Path.{◌≡◌, refl, sym, ◌∙◌, ap}
use mathlib.Core.List.{List}
use lib.ListN.{length}
use native.Mathlib.Omega.{arith}
use Rattle.definition.specs.Basic.{Answer, ok, fails, ◌>>=◌, concat_map}
use Rattle.definition.specs.Syntax.{Item}
use Rattle.definition.specs.Types.{uses}
use Rattle.definition.specs.Names.{resolve_all}
use Rattle.definition.specs.Assemble.{items_in}
use Rattle.syntax.specs.Refusals.{refused_by}
use Rattle.syntax.specs.declared.Refusal.{Refusal}
use Rattle.area.specs.Layout.{LOCALS, SIZE, TYPES}
use Rattle.area.specs.Kept.{Kept}
use Rattle.area.proofs.Kept.{kept_less, kept_word}
use Rattle.type_table.specs.Table.{types_in}
use Rattle.walk.specs.Walk.{begin, fields_in}
use Rattle.walk.proofs.Steps.{ahead-kept}
use Rattle.scope.specs.Scope.{scope_in}
use Rattle.scope.proofs.Frames.{types-kept, scope_kept, recalled-scope}
use Rattle.deinline.specs.Entry.{untyped, entries_of}
use Rattle.syntax.proofs.Ways.{handed}
use Rattle.kept.specs.Tally.{no_tally, Tallied, Checks, ChecksIn}
use Rattle.kept.specs.Content.{kept}
use Rattle.kept.specs.declared.tally.Tally.{Tally}
use Rattle.sections.specs.Write.{Writable, all_entries, module_items}
use Rattle.sections.proofs.Items.{items_are}
use Rattle.passes.specs.Passes.{Found, Resolvable, from_names, Passes}
use Rattle.passes.specs.declared.Passed.{Passed}

-- ## The fields, resolved

not_items : (a : Answer (List Item)) (q : Refusal) → (a >>= λ is. ok (concat_map untyped is)) ≡ refused_by q → a ≡ refused_by q
unfolding ◌>>=◌
not_items (ok is) q e = let z : ◌≡◌ {A = ℕ} 0 1 = cc in absurd (omega arith)
not_items (fails z) q e = cc

module _ (s w : List ℕ) (count : ℕ) (w₁ b₀ b₁ : List ℕ) where
  module _ (t : Tally) (h : ChecksIn (entries_of (scope_in s w) (fields_in s)) no_tally w b₀ (Ok t) w₁ b₁) where
    tallied : Tallied (entries_of (scope_in s w) (fields_in s)) no_tally b₀ t b₁
    unfolding Checks
    tallied = h.says

    k : Kept LOCALS w w₁
    k = h.area

    scope : scope_in s w₁ ≡ scope_in s w
    scope = scope_kept s w w₁ k

    types : types_in s w₁ ≡ types_in s w
    types = types-kept s w w₁ LOCALS k (omega arith)

    -- what the writer asks for
    writable : Resolvable s w → Writable s w₁
    writable a =
        let x = tallied in
        record {
          left = record {
            stream = a.lent.stream;
            room = rw k.long a.lent.area;
            ahead = ahead-kept s w w₁ begin (kept_less TYPES LOCALS (omega arith) k) a.ahead;
            recalled = recalled-scope s w w₁ (uses (fields_in s)) k a.recalled;
          };
          typed = record { all = rw types a.typed.all; size = rw (types, kept_word k SIZE (omega arith)) a.typed.size };
          fine = record { entries = x.entries; is = rw scope x.is };
        }

    same_entries : all_entries s w₁ ≡ tallied.entries
    unfolding all_entries
    same_entries = let x = tallied in ap (λ z. kept (entries_of z (fields_in s))) scope ∙ ap kept x.is

    -- the items
    found : Writable s w₁ → from_names (fields_in s) (scope_in s w) ≡ ok (scope_in s w₁, module_items s w₁)
    unfolding from_names ◌>>=◌
    found y = rw (← scope, items_are s w₁ y.fine) refl

    pub resolve-done : Resolvable s w → Passes (from_names (fields_in s) (scope_in s w)) count s w (Ok (record { count = count; tally = t })) w₁ b₁
    resolve-done a =
        let x = tallied in
        let z = writable a in
        record {
          says = record {
            found = found z;
            records = refl;
            ready = record { writable = z; tally = rw same_entries x.tally; held = record { old = b₀; keeps = rw same_entries x.keeps } };
          };
          long = k.long;
        }

  -- a field was refused
  pub resolve_not : (q : Refusal) → ChecksIn (entries_of (scope_in s w) (fields_in s)) no_tally w b₀ (Err q) w₁ b₁ → (r : Resolved Passed) → IsErr r → IsErrAnd r (λ e. e ≡ q)
      → Passes (from_names (fields_in s) (scope_in s w)) count s w r w₁ b₁
  unfolding from_names items_in entries_of ◌>>=◌ Checks
  resolve_not q h r i p =
      let x = not_items (resolve_all (scope_in s w) (fields_in s)) q h.says.is in
      rw (handed r q i p) (record { says = rw x refl; long = h.area })
