-- Resolving keeps which instructions name a data segment, so what reading left of it is what the module's items say.
use Prim.Native.Nat.{ℕ}
use mathlib.Core.Path.{◌≡◌, refl, sym, ◌∙◌}
use mathlib.Core.Bool.{Bool, false}
use mathlib.Core.List.{List, [], ◌∷◌, ◌++◌, map}
use lib.ListN.{length, drop}
use native.Mathlib.Omega.{arith}
use Rattle.definition.specs.Basic.{Answer, ok, fails, ◌>>=◌, each, concat_map, any}
use Rattle.definition.specs.Syntax.{Identifier, FuncType, Operand, nothing, label, labels, local, item, items, access, int32, int64, raw, Body, Instr, opens, elses, ends, indirect, plain}
use Rattle.definition.specs.Syntax.{Own, own_func, own_table, own_mem, own_global, Field, type_f, import_f, own_f, export_f, start_f, elem_f, data_f}
use Rattle.definition.specs.Syntax.{Imm, Op, Item, type_i}
use Rattle.definition.specs.Deinline.{Numbered}
use Rattle.definition.specs.Types.{declared}
use Rattle.definition.specs.Names.{Namespace, Scope, blocks_after, immediate, plain_op, instr_op, body, own_item, resolve, resolve_all}
use Rattle.definition.specs.Binary.{imm_names_data, names_data}
use Rattle.laws.proofs.Interning.{came}
use Rattle.area.specs.Flags.{data_named_in}
use Rattle.type_table.specs.Table.{types_in}
use Rattle.next_record.specs.Uses as Uses
use Rattle.next_record.specs.Uses.{operand_names}
use Rattle.walk.specs.Walk.{fields_in, own_names, field_names, data_named}
use Rattle.scope.specs.Scope.{scope_in}
use Rattle.deinline.specs.Entry.{untyped, entries_of}
use Rattle.sections.specs.Write.{Writable, kept_items, module_items}

-- what follows a step that is accepted, and what is answered
after : {A B : Type 0} (P : B → Type 0) (m : Answer A) (k : A → Answer B) (b : B) → ((a : A) → k a ≡ ok b → P b) → (m >>= k) ≡ ok b → P b
after P m k b f e = let c = came m k b e in f c.0 c.2

given : {B : Type 0} (P : B → Type 0) (a b : B) → P a → ok a ≡ ok b → P b
given P a b p e = let z : a ≡ b = cc in rw z at p

-- ## Resolving keeps what names a data segment

module _ (Γ : Scope Identifier) where
  module _ (locals blocks : Namespace Identifier) (r : ℕ) where
    abbrev Says : Bool → Imm → Type 0
    Says t i = imm_names_data i ≡ t

    imm_names : (x : Operand Identifier) (i : Imm) → immediate Γ locals blocks r x ≡ ok i → imm_names_data i ≡ operand_names x
    unfolding immediate imm_names_data
    imm_names nothing i e = given (Says false) _ i refl e
    imm_names (label x) i e = after (Says false) _ _ i (λ d f. given (Says false) _ i refl f) e
    imm_names (labels xs x) i e = after (Says false) _ _ i (λ ds f. after (Says false) _ _ i (λ d g. given (Says false) _ i refl g) f) e
    imm_names (local x) i e = after (Says false) _ _ i (λ n f. given (Says false) _ i refl f) e
    imm_names (item k x) i e = after (Says false) _ _ i (λ n f. given (Says false) _ i refl f) e
    imm_names (items b xs) i e = after (Says (Uses.byte_names b)) _ _ i (λ ns f. given (Says (Uses.byte_names b)) _ i refl f) e
    imm_names (access a o x) i e = after (Says false) _ _ i (λ n f. given (Says false) _ i refl f) e
    imm_names (int32 n) i e = given (Says false) _ i refl e
    imm_names (int64 n) i e = given (Says false) _ i refl e
    imm_names (raw bs) i e = given (Says false) _ i refl e

    abbrev OpSays : Bool → Op → Type 0
    OpSays t o = imm_names_data o.imm ≡ t

    instr-names : (x : Instr Identifier) (o : Op) → instr_op Γ locals blocks r x ≡ ok o → imm_names_data o.imm ≡ Uses.names_data x
    unfolding instr_op plain_op imm_names_data Uses.names_data
    instr-names (opens op l t) o e = after (OpSays false) _ _ o (λ b f. given (OpSays false) _ o refl f) e
    instr-names (elses l) o e = after (OpSays false) _ _ o (λ b f. given (OpSays false) _ o refl f) e
    instr-names (ends l) o e = after (OpSays false) _ _ o (λ b f. given (OpSays false) _ o refl f) e
    instr-names (indirect x t) o e = after (OpSays false) _ _ o (λ n f. after (OpSays false) _ _ o (λ y g. given (OpSays false) _ o refl g) f) e
    instr-names (plain p) o e =
        let c = came (immediate Γ locals blocks r p.operand) _ o e in
        given (OpSays (operand_names p.operand)) _ o (imm_names p.operand c.0 c.1) c.2

  abbrev BodySays : Bool → List Op → Type 0
  BodySays t os = any (λ o. imm_names_data o.imm) os ≡ t

  body-names : (locals blocks : Namespace Identifier) (xs : Body Identifier) (os : List Op) → body Γ locals blocks xs ≡ ok os
      → any (λ o. imm_names_data o.imm) os ≡ any (λ x. Uses.names_data x.1) xs
  unfolding body any
  body-names locals blocks [] os e = given (BodySays false) _ os refl e
  body-names locals blocks ((r, x) ∷ xs) os e =
      let c = came (instr_op Γ locals blocks r x) _ os e in
      let d = came (body Γ locals (blocks_after blocks x) xs) _ os c.2 in
      let a = instr-names locals blocks r x c.0 c.1 in
      let b = body-names locals (blocks_after blocks x) xs d.0 d.1 in
      given (BodySays (any (λ y. Uses.names_data y.1) ((r, x) ∷ xs))) _ os (rw (a, b) refl) d.2

  abbrev ItemSays : Bool → Item → Type 0
  ItemSays t i = names_data i ≡ t

  own-names : (r : ℕ) (o : Own Identifier) (b : Body Identifier) (i : Item) → own_item Γ r o b ≡ ok i → names_data i ≡ own_names o b
  unfolding own_item names_data
  own-names r (own_func t ls) b i e =
      let P = ItemSays (any (λ x. Uses.names_data x.1) b) in
      after P _ _ i (λ n f.
      after P _ _ i (λ _ g.
      let c = came (body Γ _ [] b) _ i g in
      given P _ i (body-names _ [] b c.0 c.1) c.2) f) e
  own-names r (own_table t) b i e = given (ItemSays false) _ i refl e
  own-names r (own_mem l) b i e = given (ItemSays false) _ i refl e
  own-names r (own_global t c) b i e = after (ItemSays false) _ _ i (λ o f. given (ItemSays false) _ i refl f) e

  field-names : (r : ℕ) (x : Field Identifier) (i : Item) → resolve Γ r x ≡ ok i → names_data i ≡ field_names x
  unfolding resolve names_data
  field-names r (type_f j t) i e = given (ItemSays false) _ i refl e
  field-names r (import_f n j d) i e = after (ItemSays false) _ _ i (λ a f. given (ItemSays false) _ i refl f) e
  field-names r (own_f j o b) i e = own-names r o b i e
  field-names r (export_f n k x) i e = after (ItemSays false) _ _ i (λ a f. given (ItemSays false) _ i refl f) e
  field-names r (start_f x) i e = after (ItemSays false) _ _ i (λ a f. given (ItemSays false) _ i refl f) e
  field-names r (elem_f j m xs) i e = after (ItemSays false) _ _ i (λ a f. after (ItemSays false) _ _ i (λ ns g. given (ItemSays false) _ i refl g) f) e
  field-names r (data_f j m d) i e = after (ItemSays false) _ _ i (λ a f. given (ItemSays false) _ i refl f) e

  abbrev AllSay : Bool → List Item → Type 0
  AllSay t is = any names_data is ≡ t

  all-names : (fs : Numbered Identifier) (is : List Item) → resolve_all Γ fs ≡ ok is → any names_data is ≡ data_named fs
  unfolding resolve_all each data_named any
  all-names [] is e = given (AllSay false) _ is refl e
  all-names ((r, x) ∷ fs) is e =
      let c = came (resolve Γ r x) _ is e in
      let d = came (resolve_all Γ fs) _ is c.2 in
      let a = field-names r x c.0 c.1 in
      let b = all-names fs d.0 d.1 in
      given (AllSay (data_named ((r, x) ∷ fs))) _ is (rw (a, b) refl) d.2

-- added types do not
types-names : (is : List Item) (ts : List FuncType) → any names_data (is ++ map type_i ts) ≡ any names_data is
unfolding any names_data
types-names [] [] = refl
types-names [] (t ∷ ts) = types-names [] ts
types-names (i ∷ is) ts = rw (types-names is ts) refl

-- ## The module's items

pub named-items : (s w : List ℕ) → Writable s w → data_named_in w ≡ any names_data (module_items s w)
unfolding module_items entries_of ◌>>=◌
named-items s w v =
    v.left.ahead.named
    ∙ go (resolve_all (scope_in s w) (fields_in s)) refl v.fine.is
    ∙ sym (types-names (kept_items (resolve_all (scope_in s w) (fields_in s))) (drop (length (declared (fields_in s))) (types_in s w)))
  where
    go : (a : Answer (List Item)) → resolve_all (scope_in s w) (fields_in s) ≡ a → (a >>= λ is. ok (concat_map untyped is)) ≡ ok v.fine.entries
        → data_named (fields_in s) ≡ any names_data (kept_items a)
    go (ok is) e d = sym (all-names (scope_in s w) (fields_in s) is e)
    go (fails q) e d = let z : ◌≡◌ {A = ℕ} 0 1 = cc in absurd (omega arith)
