-- Laws of the walk over a body.
use Rattle.std.specs.Prelude.{if◌then◌else◌, Option, Some, None, Ok, Err}
use Prim.Native.Nat.{ℕ, zero, suc, ◌+◌, ◌-◌, ◌≤◌, ◌<◌}
use mathlib.Core.Path.{◌≡◌, refl, sym, ◌∙◌, ap}
use mathlib.Core.Bool.{Bool, true, false, not}
use mathlib.Core.List.{List, [], ◌∷◌, ◌++◌, append-nil, append_assoc}
use lib.Dec.{eqb}
use lib.ListN.{length}
use mir.Syntax.{w32}
use mir.Val.{Fits}
use borrow.Author.Tests.{le-leb}
use native.Mathlib.Omega.{arith}
use Rattle.definition.specs.Syntax as Syntax
use Rattle.definition.specs.Syntax.{Bytes, Identifier, Body, instr, body_end}
use Rattle.definition.specs.Reader.{Step, got, fault, onward, require, give, byte, ◌>>=◌, ◌>>◌}
use Rattle.definition.specs.Instructions.{form_of, formed, is_open, is_due, unfolded_rec, folded_rec, body_rec}
use Rattle.laws.specs.Depths.{deep, depth_after}
use Rattle.definition.specs.Types.{Uses, used_at, instr_uses, body_uses}
use Rattle.laws.proofs.Bodies.{read_fits, open_some, deep-length}
use Rattle.syntax.specs.Reads.{Read}
use Rattle.syntax.specs.Refusals.{Resolved}
use Rattle.syntax.specs.declared.Fault.{Fault}
use Rattle.syntax.specs.declared.Refusal.{Refusal}
use Rattle.syntax.specs.Instructions.{instr_is, fold_at}
use Rattle.syntax.specs.declared.Instr.{Instr}
use Rattle.syntax.specs.declared.Instr.TheVariants as N
use Rattle.syntax.specs.declared.BodyRec.{BodyRec}
use Rattle.syntax.specs.declared.BodyRec.TheVariants as B
use Rattle.walk.specs.Walk.{uses_in}
use Rattle.walk.specs.declared.Stop.{Stop}
use Rattle.instr.specs.Readers.{head_is}
use Rattle.instr.specs.Known.{IsRead}
use Rattle.instr.specs.Bodies.{one, folding, ended, unread, on_byte, one_of, head_at, Stretch, stopped, joined, before, operator_last, fold_here, operands_by, tree_at, body_from}
use Rattle.instr.proofs.Stretches as Stretches
use Rattle.instr.proofs.Stretches.{tree_is, tree_reach, tree_later, operands_reach, body-one, body-folded, body_ended, body_cut, body_reach, operands-more, whole-first, whole-rest, whole-head, whole_tree}
use Rattle.type_table.specs.Table.{Indexed}
use Rattle.interning.specs.Uses.{nested, Nests, Skips, Handled, Handles, HandledTo, HandlesTo, Stopped}
use Rattle.interning.proofs.Handled.{handled-none, handled_then, handled_back, handled_wide, stopped_then, stopped-first, handles_types, handles_stopped, handles_then}

-- ## Open blocks

pub opens_nest : (i : Instr) (k op : ℕ) (l : _) (t : _) → Nests i k → i ≡ N.Opens op l t → Fits w32 (k + 1)
opens_nest i k op l t f e = let h : k < 128 = rw e at f in record { fits = omega arith }

pub ends_nest : (i : Instr) (k : ℕ) (l : _) → Nests i k → i ≡ N.Ends l → 1 ≤ k
ends_nest i k l f e = let h : 0 < k = rw e at f in omega arith

pub nested_is : (n k : ℕ) (i v : Instr) → i ≡ v → n ≡ nested v k → n ≡ nested i k
nested_is n k i v e h = rw e h

-- as the definition counts them
nested-opens : (s : Bytes) (i : Instr) (k : ℕ) → depth_after (instr_is s i) k ≡ nested i k
unfolding depth_after
nested-opens s (N.Opens op l t) k = refl
nested-opens s (N.Elses l) k = refl
nested-opens s (N.Ends l) k = refl
nested-opens s (N.Indirect x t) k = refl
nested-opens s (N.Plain p) k = refl

-- an instruction that stands in a body is read there
module _ (k : ℕ) (s : Bytes) (here : ℕ) (x : Syntax.Instr Identifier) (next : ℕ) where
  one-formed : (m : Step (Syntax.Instr Identifier)) → one_of m ≡ one x next → onward (λ y n. got (instr y) n) m ≡ got (instr x) next
  one-formed (got y n) e = let z : y ≡ x = cc in let w : n ≡ next = cc in rw (z, w)
  one-formed (fault n) e = let z : ◌≡◌ {A = ℕ} 0 1 = cc in absurd (omega arith)

  no_end : (t : Bool) (a : ℕ) → (if t then ended a else unread) ≡ one x next → ⊥
  no_end true a e = let z : ◌≡◌ {A = ℕ} 0 1 = cc in omega arith
  no_end false a e = let z : ◌≡◌ {A = ℕ} 0 1 = cc in omega arith

  one-unfolded : (b a : ℕ) → (if eqb b 0xFF then (if eqb k 0 then ended a else unread) else one_of (formed (deep k) b (form_of b) s a)) ≡ one x next
      → unfolded_rec (deep k) b s a ≡ got (instr x) next
  unfolding unfolded_rec
  one-unfolded b a e = go (eqb b 0xFF) e
    where
      go : (t : Bool) → (if t then (if eqb k 0 then ended a else unread) else one_of (formed (deep k) b (form_of b) s a)) ≡ one x next
          → (if t then (require 8 (not (is_open (deep k).blocks)) >> give body_end) else (formed (deep k) b (form_of b) >>= λ x. give (instr x))) s a ≡ got (instr x) next
      go true e = absurd (no_end (eqb k 0) a e)
      go false e = one-formed (formed (deep k) b (form_of b) s a) e

  one-read : head_at k s here ≡ one x next → body_rec (deep k) s here ≡ got (instr x) next
  unfolding head_at body_rec deep is_due
  one-read e = by (byte s here) e
    where
      go : (t : Bool) (b a : ℕ)
          → (if t then folding else if eqb b 0xFF then (if eqb k 0 then ended a else unread) else one_of (formed (deep k) b (form_of b) s a)) ≡ one x next
          → (if t then folded_rec (deep k) else (require 4 (not (is_due (deep k).due)) >> unfolded_rec (deep k) b)) s a ≡ got (instr x) next
      go true b a e = let z : ◌≡◌ {A = ℕ} 0 1 = cc in absurd (omega arith)
      go false b a e = one-unfolded b a e

      by : (m : Step ℕ)
          → on_byte m (λ b a. if eqb b 0xF0 then folding else if eqb b 0xFF then (if eqb k 0 then ended a else unread) else one_of (formed (deep k) b (form_of b) s a)) unread ≡ one x next
          → onward (λ b a. (if eqb b 0xF0 then folded_rec (deep k) else (require 4 (not (is_due (deep k).due)) >> unfolded_rec (deep k) b)) s a) m ≡ got (instr x) next
      by (got b a) e = go (eqb b 0xF0) b a e
      by (fault n) e = let z : ◌≡◌ {A = ℕ} 0 1 = cc in absurd (omega arith)

-- what was read nests
pub read-nests : (s : Bytes) (here k : ℕ) (b : Option BodyRec) (i : Instr) (next : ℕ) → head_is s b ≡ head_at k s here → b ≡ Some (B.Instr i next) → Nests i k
read-nests s here k b i next e d = go i (one-read k s here (instr_is s i) next (sym e ∙ ap (head_is s) d))
  where
    go : (i : Instr) → body_rec (deep k) s here ≡ got (instr (instr_is s i)) next → Nests i k
    go (N.Opens op l t) e = rw (deep-length k) at (read_fits (deep k) s next (instr_is s (N.Opens op l t)) here e)
    go (N.Elses l) e = tt
    go (N.Ends l) e = rw (deep-length k) at (open_some (deep k).blocks (read_fits (deep k) s next (instr_is s (N.Ends l)) here e))
    go (N.Indirect x t) e = tt
    go (N.Plain p) e = tt

-- ## The uses of stretches

uses-joined : (b d : Body Identifier) → body_uses (b ++ d) ≡ body_uses b ++ body_uses d
unfolding body_uses
uses-joined [] d = refl
uses-joined ((r, x) ∷ b) d = ap (λ (l : Uses). used_at r (instr_uses x) ++ l) (uses-joined b d) ∙ sym (append_assoc (used_at r (instr_uses x)) (body_uses b) (body_uses d))

uses_last : (b : Body Identifier) (r : ℕ) (x : Syntax.Instr Identifier) → body_uses (b ++ ((r, x) ∷ [])) ≡ body_uses b ++ used_at r (instr_uses x)
unfolding body_uses
uses_last b r x = uses-joined b ((r, x) ∷ []) ∙ ap (λ (l : Uses). body_uses b ++ l) (append-nil (used_at r (instr_uses x)))

-- ## What an answer tells

module _ (low : ℕ) (s : Bytes) (t : Stretch) (w : List ℕ) (k : ℕ) (q : Resolved (ℕ × Stop)) (w' : List ℕ) (told : HandlesTo low s t w k q w') where
  to_types : (m : ℕ) (stop : Stop) → q ≡ Ok (m, stop) → HandledTo low s t w k w' m stop
  unfolding HandlesTo
  to_types m stop d = rw d at told

  pub to_indexed : (m : ℕ) (stop : Stop) → q ≡ Ok (m, stop) → Indexed s w' m
  to_indexed m stop d = (to_types m stop d).handled.indexed

  to_stopped : (r : Refusal) → q ≡ Err r → Stopped s (body_uses t.body) w k r w'
  unfolding HandlesTo
  to_stopped r d = rw d at told

-- ## A folded record

no_room : (left : ℕ) (s : Bytes) (r here : ℕ) → 4096 ≤ r → tree_at left s r here ≡ stopped r here
unfolding tree_at
no_room zero s r here h = refl
no_room (suc left) s r here h = rw (le-leb _ _ h)

module _ (left : ℕ) (s : Bytes) (w : List ℕ) (k at rec : ℕ) where
  -- nothing is read
  unread_tree : (r : ℕ) → tree_at left s rec at ≡ stopped r at → Indexed s w k → HandlesTo rec s (tree_at left s rec at) w k (Ok (k, (record { at = at; rec = r }))) w
  unfolding HandlesTo body_uses
  unread_tree r e h = rw e (record { handled = handled-none rec r s w k h; at = refl; rec = refl })

  pub tree_too_deep : left < 1 → Indexed s w k → HandlesTo rec s (tree_at left s rec at) w k (Ok (k, (record { at = at; rec = rec }))) w
  unfolding tree_at
  tree_too_deep l h = let z : left ≡ 0 = omega arith in unread_tree rec (rw z) h

  pub tree_full : 4096 ≤ rec → Indexed s w k → HandlesTo rec s (tree_at left s rec at) w k (Ok (k, (record { at = at; rec = rec }))) w
  tree_full l h = unread_tree rec (no_room left s rec at l) h

  module _ (l : 1 ≤ left) (g : rec < 4096) (x : Read (Instr × ℕ)) (told : fold_here s at ≡ fold_at s x) where
    one_less : left ≡ suc (left - 1)
    one_less = omega arith

    pub tree_unread : (n : Fault) → x ≡ Err n → Indexed s w k → HandlesTo rec s (tree_at left s rec at) w k (Ok (k, (record { at = at; rec = rec + 1 }))) w
    tree_unread n d h = unread_tree (rec + 1) (ap (λ m. tree_at m s rec at) one_less ∙ tree_is (left - 1) s rec at g ∙ rw (told, d)) h

    module _ (i : Instr) (n next : ℕ) (d : x ≡ Ok ((i, n), next)) where
      abbrev operands : Stretch
      operands = operands_by (tree_at (left - 1) s) n (rec + 1) next

      abbrev here-uses : Uses
      here-uses = used_at rec (instr_uses (instr_is s i))

      made : tree_at left s rec at ≡ operator_last rec (instr_is s i) operands
      made = ap (λ m. tree_at m s rec at) one_less ∙ tree_is (left - 1) s rec at g ∙ rw (told, d)

      -- all of its operands can be read
      pub tree_whole : (tree_at left s rec at).whole ≡ true → (operands_by (tree_at (left - 1) s) n (rec + 1) next).whole ≡ true
      tree_whole h = ap (λ (t : Stretch). t.whole) (sym made) ∙ h

      all-uses : body_uses (tree_at left s rec at).body ≡ body_uses operands.body ++ here-uses
      all-uses = ap (λ (t : Stretch). body_uses t.body) made ∙ uses_last operands.body rec (instr_is s i)

      module _ (u : Resolved (ℕ × Stop)) (w₁ : List ℕ) (before : HandlesTo (rec + 1) s operands w k u w₁) where
        pub tree_operand_refused : (q : Refusal) → u ≡ Err q → HandlesTo rec s (tree_at left s rec at) w k (Err q) w₁
        unfolding HandlesTo
        tree_operand_refused q e =
            let a = all-uses in
            rw a (stopped-first s (body_uses operands.body) here-uses w k q w₁ (to_stopped (rec + 1) s operands w k u w₁ before q e))

        module _ (k₁ : ℕ) (stop : Stop) (e : u ≡ Ok (k₁, stop)) (v : Resolved ℕ) (w₂ : List ℕ) (used : Handles rec (rec + 1) s here-uses w₁ k₁ v w₂) where
          pub tree_refused : (q : Refusal) → v ≡ Err q → HandlesTo rec s (tree_at left s rec at) w k (Err q) w₂
          unfolding HandlesTo
          tree_refused q f =
              let a = all-uses in
              let o = to_types (rec + 1) s operands w k u w₁ before k₁ stop e in
              rw a (stopped_then (rec + 1) 0 operands.rec 0 s (body_uses operands.body) here-uses w k w₁ k₁ o.handled w₂ q
              (handles_stopped rec (rec + 1) s here-uses w₁ k₁ v w₂ used q f))

          pub tree_done : (m : ℕ) → v ≡ Ok m → HandlesTo rec s (tree_at left s rec at) w k (Ok (m, stop)) w₂
          unfolding HandlesTo
          tree_done m f =
              let a = all-uses in
              let t = made in
              let o = to_types (rec + 1) s operands w k u w₁ before k₁ stop e in
              let reach = operands_reach (tree_at (left - 1) s) (tree_reach (left - 1) s) n (rec + 1) next in
              let is : (tree_at left s rec at).rec ≡ operands.rec = ap (λ (t : Stretch). t.rec) t in
              record {
                handled = rw (a, is) (handled_back rec (rec + 1) operands.rec s (body_uses operands.body) here-uses w k w₁ k₁ w₂ m (omega arith) reach.least (reach.most (omega arith))
                    o.handled (handles_types rec (rec + 1) s here-uses w₁ k₁ v w₂ used m f));
                at = o.at ∙ ap (λ (t : Stretch). t.at) (sym t);
                rec = o.rec ∙ sym is;
              }

pub ruleset trees = (tree_too_deep, tree_full, tree_unread, tree_operand_refused, tree_refused, tree_done)

-- ## Operands

-- some were handled, and the others are ahead
pub record Operating (left : ℕ) (s : Bytes) (w₀ : List ℕ) (k₀ n at rec : ℕ) (w : List ℕ) (k due here r : ℕ) : Type 0 where
  pub done : Uses
  pub so_far : Handled rec r s done w₀ k₀ w k
  pub same : done ++ body_uses (operands_by (tree_at left s) due r here).body ≡ body_uses (operands_by (tree_at left s) n rec at).body
  pub stops_at : (operands_by (tree_at left s) due r here).at ≡ (operands_by (tree_at left s) n rec at).at
  pub stops-rec : (operands_by (tree_at left s) due r here).rec ≡ (operands_by (tree_at left s) n rec at).rec
  pub whole : (operands_by (tree_at left s) due r here).whole ≡ true
  pub low : rec ≤ r
  pub most : r ≤ 4096
  pub indexed : Indexed s w k
  pub long : length w ≡ length w₀

pub operands_begin : (left : ℕ) (s w : List ℕ) (k n at rec : ℕ) → rec ≤ 4096 → Indexed s w k → (operands_by (tree_at left s) n rec at).whole ≡ true → Operating left s w k n at rec w k n at rec
operands_begin left s w k n at rec l h g =
    record { done = []; so_far = handled-none rec rec s w k h; same = refl; stops_at = refl; stops-rec = refl; whole = g; low = omega arith; most = l; indexed = h; long = refl }

module _ (left : ℕ) (s : Bytes) (w₀ : List ℕ) (k₀ n at rec : ℕ) (w : List ℕ) (k due here r : ℕ) (v : Operating left s w₀ k₀ n at rec w k due here r) where
  pub operands-done : due ≤ 0 → HandlesTo rec s (operands_by (tree_at left s) n rec at) w₀ k₀ (Ok (k, (record { at = here; rec = r }))) w
  operands-done h =
      let z : due ≡ 0 = omega arith in
      over (rw z at v.same) (rw z at v.stops_at) (rw z at v.stops-rec)
    where
      over : v.done ++ body_uses (operands_by (tree_at left s) 0 r here).body ≡ body_uses (operands_by (tree_at left s) n rec at).body
          → (operands_by (tree_at left s) 0 r here).at ≡ (operands_by (tree_at left s) n rec at).at → (operands_by (tree_at left s) 0 r here).rec ≡ (operands_by (tree_at left s) n rec at).rec
          → HandlesTo rec s (operands_by (tree_at left s) n rec at) w₀ k₀ (Ok (k, (record { at = here; rec = r }))) w
      over a b c = unfold HandlesTo operands_by body_uses in record { handled = rw (← c, ← a, append-nil v.done) v.so_far; at = b; rec = c }

  -- all of the next one can be read
  pub operands-whole : 0 < due → (tree_at left s r here).whole ≡ true
  operands-whole h =
      whole-first (tree_at left s r here) (operands_by (tree_at left s) (due - 1) (tree_at left s r here).rec (tree_at left s r here).at)
      (ap (λ (t : Stretch). t.whole) (sym (operands-more (tree_at left s) due r here h)) ∙ v.whole)

  module _ (h : 0 < due) (u : Resolved (ℕ × Stop)) (w' : List ℕ) (used : HandlesTo r s (tree_at left s r here) w k u w') where
    abbrev one_tree : Stretch
    one_tree = tree_at left s r here

    abbrev others : Stretch
    others = operands_by (tree_at left s) (due - 1) one_tree.rec one_tree.at

    split : operands_by (tree_at left s) due r here ≡ joined one_tree others
    split = operands-more (tree_at left s) due r here h

    every : v.done ++ body_uses one_tree.body ++ body_uses others.body ≡ body_uses (operands_by (tree_at left s) n rec at).body
    every =
        append_assoc v.done (body_uses one_tree.body) (body_uses others.body)
        ∙ ap (λ (l : Uses). v.done ++ l) (sym (ap (λ (t : Stretch). body_uses t.body) split ∙ uses-joined one_tree.body others.body)) ∙ v.same

    pub operands-refused : (q : Refusal) → u ≡ Err q → HandlesTo rec s (operands_by (tree_at left s) n rec at) w₀ k₀ (Err q) w'
    unfolding HandlesTo
    operands-refused q e =
        let a = every in
        rw (← a) (stopped-first s (v.done ++ body_uses one_tree.body) (body_uses others.body) w₀ k₀ q w'
        (stopped_then rec 0 r 0 s v.done (body_uses one_tree.body) w₀ k₀ w k v.so_far w' q (to_stopped r s one_tree w k u w' used q e)))

    pub operands_again : (m : ℕ) (stop : Stop) → u ≡ Ok (m, stop) → Operating left s w₀ k₀ n at rec w' m (due - 1) stop.at stop.rec
    operands_again m stop e =
        let o = to_types r s one_tree w k u w' used m stop e in
        let reach = tree_reach left s r here in
        let p = o.at in
        let z = o.rec in
        rw (p, z) (record {
          done = v.done ++ body_uses one_tree.body;
          so_far = handled_then rec one_tree.rec r r s v.done (body_uses one_tree.body) w₀ k₀ w k v.so_far w' m (omega arith) v.low reach.least o.handled;
          same = every;
          stops_at = sym (ap (λ (t : Stretch). t.at) split) ∙ v.stops_at;
          stops-rec = sym (ap (λ (t : Stretch). t.rec) split) ∙ v.stops-rec;
          whole = whole-rest one_tree others (ap (λ (t : Stretch). t.whole) (sym split) ∙ v.whole);
          low = omega (arith, v.low, reach.least);
          most = reach.most v.most;
          indexed = o.handled.indexed;
          long = o.handled.kept.long ∙ v.long;
        })

-- ## The loop

-- some uses were handled, and the others are ahead
pub record Going (s : Bytes) (w₀ : List ℕ) (k₀ at rec : ℕ) (w : List ℕ) (k here r depth : ℕ) : Type 0 where
  pub done : Uses
  pub so_far : Handled rec r s done w₀ k₀ w k
  pub same : done ++ body_uses (body_from depth r s here).body ≡ body_uses (body_from 0 rec s at).body
  pub ends : (body_from depth r s here).rec ≡ (body_from 0 rec s at).rec
  pub whole : (body_from depth r s here).whole ≡ true
  pub low : rec ≤ r
  pub indexed : Indexed s w k
  pub long : length w ≡ length w₀

pub body-begin : (s w : List ℕ) (k at rec : ℕ) → Indexed s w k → (body_from 0 rec s at).whole ≡ true → Going s w k at rec w k at rec 0
body-begin s w k at rec h g = record { done = []; so_far = handled-none rec rec s w k h; same = refl; ends = refl; whole = g; low = omega arith; indexed = h; long = refl }

module _ (s : Bytes) (w₀ : List ℕ) (k₀ at rec : ℕ) (w : List ℕ) (k here r depth : ℕ) (v : Going s w₀ k₀ at rec w k here r depth) where
  -- nothing is ahead
  over : (body_from depth r s here).body ≡ [] → Handles rec (body_from 0 rec s at).rec s (body_uses (body_from 0 rec s at).body) w₀ k₀ (Ok k) w
  unfolding Handles body_uses
  over e =
      let all : v.done ≡ body_uses (body_from 0 rec s at).body = sym (append-nil v.done) ∙ ap (λ (l : Body Identifier). v.done ++ body_uses l) (sym e) ∙ v.same in
      let end = v.ends in
      rw (← all) (handled_wide rec _ r 0 s v.done [] w₀ k₀ w k v.so_far (rw end at (body_reach s depth r here).least))

  pub body_full : 4096 ≤ r → Handles rec (body_from 0 rec s at).rec s (body_uses (body_from 0 rec s at).body) w₀ k₀ (Ok k) w
  body_full h = over (ap (λ (t : Stretch). t.body) (Stretches.body_full s depth r here h))

  -- what stands there can be read
  pub body-read : r < 4096 → IsRead (head_at depth s here)
  body-read h = whole-head s depth r here h v.whole

  module _ (b : Option BodyRec) (h : r < 4096) (told : head_is s b ≡ head_at depth s here) where
    -- and all of a folded record
    pub body_tree : b ≡ Some B.Folded → (tree_at 32 s r here).whole ≡ true
    body_tree d = whole_tree s depth r here h v.whole (sym told ∙ ap (head_is s) d)

    pub body-ends : (next : ℕ) → b ≡ Some (B.End next) → Handles rec (body_from 0 rec s at).rec s (body_uses (body_from 0 rec s at).body) w₀ k₀ (Ok k) w
    body-ends next d = over (ap (λ (t : Stretch). t.body) (body_ended s depth r here h next (sym told ∙ ap (head_is s) d)))

    pub body-unread : b ≡ None → Handles rec (body_from 0 rec s at).rec s (body_uses (body_from 0 rec s at).body) w₀ k₀ (Ok k) w
    body-unread d = over (ap (λ (t : Stretch). t.body) (body_cut s depth r here h (sym told ∙ ap (head_is s) d)))

    -- an instruction, and the others
    module _ (i : Instr) (next : ℕ) (d : b ≡ Some (B.Instr i next)) (q : Resolved ℕ) (w' : List ℕ) (used : Handles r (r + 1) s (used_at r (instr_uses (instr_is s i))) w k q w') where
      abbrev one_use : Uses
      one_use = used_at r (instr_uses (instr_is s i))

      abbrev after : Stretch
      after = body_from (depth_after (instr_is s i) depth) (r + 1) s next

      split_one : body_from depth r s here ≡ before r (instr_is s i) after
      split_one = body-one s depth r here h (instr_is s i) next (sym told ∙ ap (head_is s) d)

      every_use : v.done ++ one_use ++ body_uses after.body ≡ body_uses (body_from 0 rec s at).body
      unfolding body_uses
      every_use = append_assoc v.done one_use (body_uses after.body) ∙ ap (λ (l : Uses). v.done ++ l) (sym (ap (λ (t : Stretch). body_uses t.body) split_one)) ∙ v.same

      pub body_refused : (p : Refusal) → q ≡ Err p → Handles rec (body_from 0 rec s at).rec s (body_uses (body_from 0 rec s at).body) w₀ k₀ (Err p) w'
      unfolding Handles
      body_refused p e =
          let a = every_use in
          rw (← a) (stopped-first s (v.done ++ one_use) (body_uses after.body) w₀ k₀ p w'
          (stopped_then rec (r + 1) r r s v.done one_use w₀ k₀ w k v.so_far w' p (handles_stopped r (r + 1) s one_use w k q w' used p e)))

      pub body_again : (m depth' : ℕ) → q ≡ Ok m → depth' ≡ nested i depth → Going s w₀ k₀ at rec w' m next (r + 1) depth'
      body_again m depth' e f =
          let u = handles_types r (r + 1) s one_use w k q w' used m e in
          let o : depth_after (instr_is s i) depth ≡ depth' = nested-opens s i depth ∙ sym f in
          record {
            done = v.done ++ one_use;
            so_far = handled_then rec (r + 1) r r s v.done one_use w₀ k₀ w k v.so_far w' m (omega arith) v.low (omega arith) u;
            same = rw (← o) every_use;
            ends = rw (← o) (sym (ap (λ (t : Stretch). t.rec) split_one) ∙ v.ends);
            whole = rw (← o) (sym (ap (λ (t : Stretch). t.whole) split_one) ∙ v.whole);
            low = omega (arith, v.low);
            indexed = u.indexed;
            long = u.kept.long ∙ v.long;
          }

    -- a folded record, and the others
    module _ (d : b ≡ Some B.Folded) (q : Resolved (ℕ × Stop)) (w' : List ℕ) (used : HandlesTo r s (tree_at 32 s r here) w k q w') where
      abbrev tree : Stretch
      tree = tree_at 32 s r here

      abbrev onwards : Stretch
      onwards = body_from depth tree.rec s tree.at

      split_fold : body_from depth r s here ≡ joined tree onwards
      split_fold = body-folded s depth r here h (sym told ∙ ap (head_is s) d)

      whole_use : v.done ++ body_uses tree.body ++ body_uses onwards.body ≡ body_uses (body_from 0 rec s at).body
      whole_use =
          append_assoc v.done (body_uses tree.body) (body_uses onwards.body)
          ∙ ap (λ (l : Uses). v.done ++ l) (sym (ap (λ (t : Stretch). body_uses t.body) split_fold ∙ uses-joined tree.body onwards.body)) ∙ v.same

      pub fold-refused : (p : Refusal) → q ≡ Err p → Handles rec (body_from 0 rec s at).rec s (body_uses (body_from 0 rec s at).body) w₀ k₀ (Err p) w'
      unfolding Handles
      fold-refused p e =
          let a = whole_use in
          rw (← a) (stopped-first s (v.done ++ body_uses tree.body) (body_uses onwards.body) w₀ k₀ p w'
          (stopped_then rec 0 r 0 s v.done (body_uses tree.body) w₀ k₀ w k v.so_far w' p (to_stopped r s tree w k q w' used p e)))

      -- the next record is a later one
      pub fold_less : (m : ℕ) (stop : Stop) → q ≡ Ok (m, stop) → 4096 - stop.rec < 4096 - r
      fold_less m stop e =
          let o = to_types r s tree w k q w' used m stop e in
          let z = o.rec in
          let l = tree_later 31 s r here h in
          omega (arith, l.later, l.most)

      fold_on : (m : ℕ) (stop : Stop) → q ≡ Ok (m, stop) → Going s w₀ k₀ at rec w' m stop.at stop.rec depth
      fold_on m stop e =
          let o = to_types r s tree w k q w' used m stop e in
          let reach = tree_reach 32 s r here in
          let p = o.at in
          let z = o.rec in
          rw (p, z) (record {
            done = v.done ++ body_uses tree.body;
            so_far = handled_then rec tree.rec r r s v.done (body_uses tree.body) w₀ k₀ w k v.so_far w' m (omega arith) v.low reach.least o.handled;
            same = whole_use;
            ends = sym (ap (λ (t : Stretch). t.rec) split_fold) ∙ v.ends;
            whole = whole-rest tree onwards (sym (ap (λ (t : Stretch). t.whole) split_fold) ∙ v.whole);
            low = omega (arith, v.low, reach.least);
            indexed = o.handled.indexed;
            long = o.handled.kept.long ∙ v.long;
          })

-- what is shown by the loop's state comes first
pub fold_again : (s : Bytes) (w₀ : List ℕ) (k₀ at rec : ℕ) (w : List ℕ) (k here r depth : ℕ) (b : Option BodyRec) (q : Resolved (ℕ × Stop)) (w' : List ℕ) (m : ℕ) (stop : Stop) → q ≡ Ok (m, stop)
    → HandlesTo r s (tree_at 32 s r here) w k q w' → Going s w₀ k₀ at rec w k here r depth → b ≡ Some B.Folded → head_is s b ≡ head_at depth s here → r < 4096
    → Going s w₀ k₀ at rec w' m stop.at stop.rec depth
fold_again s w₀ k₀ at rec w k here r depth b q w' m stop e used v d told h = fold_on s w₀ k₀ at rec w k here r depth v b h told d q w' used m stop e

pub ruleset bodies-over = (body_full, body-ends, body-unread, body_refused, fold-refused)

-- ## A function

module _ (s : Bytes) (us : Uses) (w : List ℕ) (k at rec : ℕ) (q : Resolved ℕ) (w₁ : List ℕ) (told : Handles rec (rec + 1) s us w k q w₁) where
  pub func-body : (k₁ : ℕ) (r : Resolved ℕ) (w₂ : List ℕ) → q ≡ Ok k₁
      → Handles (rec + 1) (body_from 0 (rec + 1) s at).rec s (body_uses (body_from 0 (rec + 1) s at).body) w₁ k₁ r w₂
      → Handles rec (body_from 0 (rec + 1) s at).rec s (us ++ body_uses (body_from 0 (rec + 1) s at).body) w k r w₂
  func-body k₁ r w₂ d b =
      handles_then rec _ (rec + 1) (rec + 1) s us _ w k w₁ k₁ w₂ r (handles_types rec (rec + 1) s us w k q w₁ told k₁ d)
      (omega arith) (omega arith) (body_reach s 0 (rec + 1) at).least b

  -- nothing has to be read
  pub func_skips : (k₁ own : ℕ) (looks : Bool) → q ≡ Ok k₁ → looks ≡ uses_in w own → looks ≡ false → Skips w own (body_uses (body_from 0 (rec + 1) s at).body)
      → Handles rec (body_from 0 (rec + 1) s at).rec s (us ++ body_uses (body_from 0 (rec + 1) s at).body) w k (Ok k₁) w₁
  unfolding Handles
  func_skips k₁ own looks d y e x =
      let b = x.unused (sym y ∙ e) in
      rw (b, append-nil us) (handled_wide rec _ (rec + 1) 0 s us [] w k w₁ k₁ (handles_types rec (rec + 1) s us w k q w₁ told k₁ d)
      (body_reach s 0 (rec + 1) at).least)

  pub func-refused : (p : Refusal) → q ≡ Err p
      → Handles rec (body_from 0 (rec + 1) s at).rec s (us ++ body_uses (body_from 0 (rec + 1) s at).body) w k (Err p) w₁
  unfolding Handles
  func-refused p d = stopped-first s us _ w k p w₁ (handles_stopped rec (rec + 1) s us w k q w₁ told p d)
