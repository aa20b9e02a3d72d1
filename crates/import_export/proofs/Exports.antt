-- Laws of exports, of the start and of globals.
use Rattle.std.specs.Prelude.{Ok, Err}
use Rattle.syntax.specs.Reads.{Read}
use Rattle.syntax.specs.Refusals.{Resolved}
use Prim.Native.Nat.{ℕ, ◌+◌, ◌-◌, ◌*◌, ◌^◌, ◌≤◌, ◌<◌}
use mathlib.Core.Path.{◌≡◌, refl, sym, ◌∙◌, ap}
use mathlib.Core.List.{List, [], ◌∷◌, ◌++◌, append_assoc, append-nil}
use mathlib.Core.Option.{none}
use lib.ListN.{length, length-append}
use native.Mathlib.Omega.{arith}
use Rattle.definition.specs.Basic.{◌>>=◌, concat_map}
use Rattle.definition.specs.Syntax as Syntax
use Rattle.definition.specs.Syntax.{Bytes, Identifier, Space, code, funcs}
use Rattle.definition.specs.Token.{string}
use Rattle.definition.specs.Names.{Scope, item_no, const_op, own_item, resolve}
use Rattle.definition.specs.Binary.{u, sized, global_type, entries, joined}
use Rattle.syntax.specs.Refusals.{number}
use Rattle.syntax.specs.declared.Fault.{Fault}
use Rattle.syntax.specs.declared.Refusal.{Refusal}
use Rattle.emit.specs.Put.{Put}
use Rattle.emit.proofs.Laws.{put-none, put_then, put_is}
use Rattle.syntax.specs.Tokens.{part_of, part_at}
use Rattle.syntax.specs.declared.Part.{Part}
use Rattle.syntax.specs.TypeUses.{elements}
use Rattle.name_table.specs.Area.{resolved}
use Rattle.binary.specs.Emits.{Emits}
use Rattle.binary.proofs.Emitting.{wrote, halts, emits-map, put-emits}
use Rattle.import_export.specs.Entry.{entry_of, export_entries, Lists}
use Rattle.operands.specs.Operands.{const_bytes}
use Rattle.operands.proofs.Elements.{elements-none, elements-more, elements-fault, concat_snoc}

-- ## `emit_export`

module _ (Γ : Scope Identifier) (rec : ℕ) (n : Bytes) (k : Space) (x : Syntax.Index Identifier) (y : Resolved ℕ) (told : item_no Γ k rec x ≡ resolved y) (old : List ℕ) (at : ℕ) (new : List ℕ) where
  abbrev Export : Resolved ℕ → Type 0
  Export r = Emits entry_of (resolve Γ rec (Syntax.export_f n k x)) old at r new

  pub export_to : (m r : ℕ) → y ≡ Ok m → Put old at (sized n ++ (code k ∷ u m)) r new → Export (Ok r)
  unfolding resolve entry_of entries ◌>>=◌
  export_to m r d p = wrote entry_of (resolve Γ rec (Syntax.export_f n k x)) old at new (Syntax.export_i n k m) r p (rw (told, d))

  pub export_not : (r : Refusal) → y ≡ Err r → Export (Err r)
  unfolding resolve ◌>>=◌
  export_not r d = halts entry_of (resolve Γ rec (Syntax.export_f n k x)) old at new r (rw (told, d))

-- ## `emit_start`

pub start_is : (Γ : Scope Identifier) (rec : ℕ) (x : Syntax.Index Identifier) (old : List ℕ) (at : ℕ) (q : Resolved ℕ) (new : List ℕ) → Emits u (item_no Γ funcs rec x) old at q new
    → Emits entry_of (resolve Γ rec (Syntax.start_f x)) old at q new
unfolding resolve entry_of entries
start_is Γ rec x old at q new w = emits-map u entry_of (λ m. Syntax.start_i m) (item_no Γ funcs rec x) old at q new (λ m. refl) w

-- ## `emit_global`

pub global-is : (Γ : Scope Identifier) (rec : ℕ) (t : Syntax.GlobalType) (c : Syntax.Plain Identifier) (old : List ℕ) (at o : ℕ) (mid : List ℕ) (q : Resolved ℕ) (new : List ℕ) → Put old at (global_type t) o mid
    → Emits const_bytes (const_op Γ rec c) mid o q new → Emits entry_of (resolve Γ rec (Syntax.own_f none (Syntax.own_global t c) [])) old at q new
unfolding resolve own_item entry_of entries const_bytes
global-is Γ rec t c old at o mid q new p w = put-emits const_bytes entry_of (λ o. Syntax.global_i t o) (const_op Γ rec c) old at (global_type t) o mid q new (λ o. refl) p w

-- ## `put_exports`

-- `i` of them are put
pub record Exporting (s : Bytes) (at n : ℕ) (k : Space) (x : ℕ) (old : List ℕ) (place o i here : ℕ) (out : List ℕ) : Type 0 where
  pub done : List Bytes
  pub so_far : Put old place (joined done) o out
  pub number : i ≡ length done
  pub few : i ≤ n
  pub same : export_entries k x (elements string s at n) ≡ done ++ export_entries k x (elements string s here (n - i))

pub export_begin : (s : Bytes) (at n : ℕ) (k : Space) (x : ℕ) (old : List ℕ) (place : ℕ) → length old * 1 < 2 ^ 63 → Exporting s at n k x old place place 0 at old
unfolding joined concat_map
export_begin s at n k x old place h =
    let e : n - 0 ≡ n = omega arith in
    record { done = []; so_far = put-none place (omega arith); number = refl; few = omega arith; same = rw e refl }

module _ {s : Bytes} {at n : ℕ} {k : Space} {x : ℕ} {old : List ℕ} {place o i here : ℕ} {out : List ℕ} (v : Exporting s at n k x old place o i here out) where
  abbrev Ended : ℕ → Type 0
  Ended c = Lists (export_entries k x (elements string s at n)) old place (record { to = o; count = c }) out

  none_left : elements string s here (n - i) ≡ [] → Ended i
  unfolding export_entries
  none_left e =
      let f : export_entries k x (elements string s at n) ≡ v.done = v.same ∙ rw e (append-nil v.done) in
      rw f (record { put = v.so_far; number = v.number })

  pub export_done : n ≤ i → Ended n
  export_done h = counted n (omega (arith, v.few)) (none_left (elements-none string s here (n - i) (omega arith)))
    where
      counted : (c : ℕ) → c ≡ i → Ended i → Ended c
      counted c e l = rw e l

  module _ (q : Read Part) (told : string s here ≡ part_at s q) where
    pub export_fault : (m : Fault) → q ≡ Err m → Ended i
    export_fault m d = none_left (elements-fault string s here (n - i) (number m) (told ∙ ap (part_at s) d))

    pub export_again : (e : Part) (next r : ℕ) (new : List ℕ) → i < n → q ≡ Ok (e, next) → Put out o (sized (part_of s e) ++ (code k ∷ u x)) r new → Exporting s at n k x old place r (i + 1) next new
    unfolding joined export_entries
    export_again e next r new h d p = record {
      done = v.done ++ ((sized (part_of s e) ++ (code k ∷ u x)) ∷ []);
      so_far = put_is (put_then v.so_far p) (sym (concat_snoc (λ (y : Bytes). y) v.done (sized (part_of s e) ++ (code k ∷ u x))));
      number = omega (arith, v.number, length-append v.done ((sized (part_of s e) ++ (code k ∷ u x)) ∷ []));
      few = omega arith;
      same = v.same ∙
          (let m : n - (i + 1) ≡ n - i - 1 = omega arith in
          let f : elements string s here (n - i) ≡ part_of s e ∷ elements string s next (n - (i + 1)) =
          rw m (elements-more string s here (n - i) (part_of s e) next (omega arith) (told ∙ ap (part_at s) d)) in
          rw f (sym (append_assoc v.done ((sized (part_of s e) ++ (code k ∷ u x)) ∷ []) (export_entries k x (elements string s next (n - (i + 1)))))));
    }
