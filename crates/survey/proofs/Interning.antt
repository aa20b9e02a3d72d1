-- Laws of the uses of types, field after field.
use Rattle.std.specs.Prelude.{Ok, Err, Some, None}
use Rattle.syntax.specs.Refusals.{Resolved}
use Prim.Native.Nat.{ℕ, ◌+◌, ◌≤◌, ◌<◌}
use mathlib.Core.Path.{◌≡◌, sym, ◌∙◌, ap}
use mathlib.Core.List.{List, [], ◌++◌, append-nil, append_assoc}
use mathlib.Core.Option.{Option, none, some}
use lib.ListN.{length, get_or}
use native.Mathlib.Omega.{arith}
use Rattle.definition.specs.Basic.{ok}
use Rattle.definition.specs.Syntax.{Bytes, Identifier}
use Rattle.definition.specs.Instructions.{Inside}
use Rattle.definition.specs.Read.{field_body}
use Rattle.definition.specs.Deinline.{Numbered}
use Rattle.definition.specs.Types.{Uses, body_uses, uses, declared, intern, all_types}
use Rattle.laws.proofs.Interning.{intern-keeps}
use Rattle.syntax.specs.Refusals.{refused_by}
use Rattle.syntax.specs.declared.Refusal.{Refusal}
use Rattle.area.specs.Layout.{NAMES, TYPES, USES}
use Rattle.syntax.specs.Items.{count_of}
use Rattle.syntax.specs.Fields.{field_of}
use Rattle.syntax.specs.declared.Field.{Field}
use Rattle.area.specs.Kept.{Kept}
use Rattle.area.proofs.Kept.{kept_word}
use Rattle.type_table.specs.Table.{type_table, Indexed}
use Rattle.type_table.proofs.Types.{table_kept}
use Rattle.instr.proofs.Stretches.{body_reach}
use Rattle.walk.specs.Walk.{body_in, begin, cursor_after, visit_in, visit_of, fields_here, fields_ahead, fields_in, Ahead}
use Rattle.walk.specs.declared.Cursor.{Cursor}
use Rattle.walk.specs.declared.Met.{Met}
use Rattle.walk.proofs.Steps.{visit_done, visit_few, visit_next, visit_fields, visit_unused}
use Rattle.interning.specs.Uses.{Skips, uses_field, end_after, Known, Handled, Handles}
use Rattle.interning.proofs.Handled.{intern_on, intern-stops, known_kept, known-append, known_wide, keeps_same, handles_types, handles_stopped}
use Rattle.interning.proofs.Fields.{record_uses}
use Rattle.laws.proofs.Uses.{uses-append}

-- ## The record after a field

end_low : (b : Option Inside) (r : ℕ) (s : Bytes) (here : ℕ) → r + 1 ≤ end_after b r s here
end_low none r s here = omega arith
end_low (some i) r s here = (body_reach s (length i.blocks) (r + 1) here).least

end_high : (b : Option Inside) (r : ℕ) (s : Bytes) (here : ℕ) → r < 4096 → end_after b r s here ≤ 4096
end_high none r s here h = omega arith
end_high (some i) r s here h = (body_reach s (length i.blocks) (r + 1) here).most (omega arith)

-- ## The walk

-- the types so far decide over the uses that are ahead
pub record Interning (s w : List ℕ) (c : Cursor) (k : ℕ) : Type 0 where
  pub same : all_types (fields_in s) ≡ intern (type_table k s w TYPES) (uses (fields_ahead c s))

-- the uses so far are known by their numbers
pub record Knowing (s w : List ℕ) (c : Cursor) (k : ℕ) : Type 0 where
  pub done : Uses
  pub known : Known c.rec w (type_table k s w TYPES) done
  pub same : done ++ uses (fields_ahead c s) ≡ uses (fields_in s)
  pub low : c.rec ≤ 4096

-- before the first field
module _ (s w : List ℕ) (k : ℕ) (c : Cursor) (e : c ≡ begin) where
  pub interning-begin : type_table k s w TYPES ≡ declared (fields_in s) → Interning s w c k
  unfolding all_types fields_in
  interning-begin t = record { same = rw (e, t) }

  pub knowing_begin : Knowing s w c k
  unfolding fields_in begin Known
  knowing_begin = record { done = []; known = tt; same = rw e; low = rw e (omega arith) }

-- words after the types and their numbers do not matter
module _ (s w w' : List ℕ) (c : Cursor) (k : ℕ) (few : k ≤ 256) (h : Kept NAMES w w') where
  pub interning-kept : Interning s w c k → Interning s w' c k
  interning-kept v = record { same = rw (table_kept k s TYPES NAMES (omega arith) h) v.same }

  pub knowing_kept : Knowing s w c k → Knowing s w' c k
  knowing_kept v =
      let t = type_table k s w TYPES in
      record {
        done = v.done;
        known = rw (table_kept k s TYPES NAMES (omega arith) h)
            (known_kept c.rec c.rec w w' t t v.done (omega arith) (keeps_same t) (λ i l. kept_word h (USES + i) (omega (arith, v.low))) v.known);
        same = v.same;
        low = v.low;
      }

module _ (s : Bytes) (c : Cursor) (m : Met) (told : visit_in c.left c s ≡ visit_of s m) where
  -- no field is left
  module _ (w : List ℕ) (k : ℕ) (is : m.what ≡ None) where
    pub interning-done : Interning s w c k → all_types (fields_in s) ≡ ok (type_table k s w TYPES)
    unfolding uses intern
    interning-done v = v.same ∙ rw (visit_done s c m told is)

    pub knowing_done : Knowing s w c k → Known 4096 w (type_table k s w TYPES) (uses (fields_in s))
    unfolding uses
    knowing_done v =
        let all : v.done ≡ uses (fields_in s) = sym (append-nil v.done) ∙ ap (λ (l : Numbered Identifier). v.done ++ uses l) (sym (visit_done s c m told is)) ∙ v.same in
        rw (← all) (known_wide c.rec 4096 w (type_table k s w TYPES) v.done v.low v.known)

  module _ (f : Field) (here : ℕ) (is : m.what ≡ Some (f, here)) where
    -- a body that is not marked need not be looked at
    pub field_skips : (w : List ℕ) → Ahead s w c → Skips w c.own (body_uses (body_in (field_body (field_of s f)) (c.rec + 1) s here))
    field_skips w a = record { unused = λ d. visit_unused s c m told f here is w a d }

    abbrev here-uses : Uses
    here-uses = uses_field c.rec (field_of s f) s here

    -- the uses of a field, and those ahead of it
    split : uses (fields_ahead c s) ≡ here-uses ++ uses (fields_ahead m.next s)
    unfolding fields_here
    split =
        ap uses (visit_fields s c m told f here is) ∙ uses-append _ (fields_ahead m.next s)
        ∙ ap (λ (l : Uses). l ++ uses (fields_ahead m.next s)) (record_uses c.rec (count_of c.seen) (field_of s f) s here)

    module _ (w : List ℕ) (k : ℕ) (q : Resolved ℕ) (w' : List ℕ) (used : Handles c.rec (end_after (field_body (field_of s f)) c.rec s here) s here-uses w k q w') where
      -- they were refused
      pub interning-refused : Interning s w c k → (p : Refusal) → q ≡ Err p → all_types (fields_in s) ≡ refused_by p
      interning-refused v p e =
          let d = split in
          v.same ∙ rw d (intern-stops (type_table k s w TYPES) here-uses (uses (fields_ahead m.next s)) p (handles_stopped _ _ s here-uses w k q w' used p e).says)

      pub refused-kept : (p : Refusal) → q ≡ Err p → Kept TYPES w w'
      refused-kept p e = (handles_stopped _ _ s here-uses w k q w' used p e).kept

      -- they were taken or added
      module _ (k' : ℕ) (e : q ≡ Ok k') where
        abbrev u : Handled c.rec (end_after (field_body (field_of s f)) c.rec s here) s here-uses w k w' k'
        u = handles_types _ _ s here-uses w k q w' used k' e

        pub used-indexed : Indexed s w' k'
        used-indexed = u.indexed

        pub used-kept : Kept TYPES w w'
        used-kept = u.kept

        pub used-above : (i : ℕ) → NAMES ≤ i → get_or w' i 0 ≡ get_or w i 0
        used-above i l = u.above i (omega arith)

        pub interning_again : Interning s w c k → Interning s w' m.next k'
        interning_again v = let d = split in record { same = v.same ∙ rw d (intern_on (type_table k s w TYPES) (type_table k' s w' TYPES) here-uses (uses (fields_ahead m.next s)) u.types) }

        pub knowing_again : Knowing s w c k → Knowing s w' m.next k'
        unfolding cursor_after
        knowing_again v =
            let next : m.next.rec ≡ end_after (field_body (field_of s f)) c.rec s here = ap (λ (z : Cursor). z.rec) (visit_next s c m told f here is) in
            let low = end_low (field_body (field_of s f)) c.rec s here in
            let high = end_high (field_body (field_of s f)) c.rec s here (visit_few s c m told f here is) in
            let ts = type_table k s w TYPES in
            let all = type_table k' s w' TYPES in
            record {
              done = v.done ++ here-uses;
              known = rw next (known-append _ w' all v.done here-uses
                  (known_kept c.rec _ w w' ts all v.done (omega arith) (intern-keeps ts here-uses all u.types) u.before v.known) u.known);
              same = append_assoc v.done here-uses (uses (fields_ahead m.next s)) ∙ ap (λ (l : Uses). v.done ++ l) (sym split) ∙ v.same;
              low = omega arith;
            }
