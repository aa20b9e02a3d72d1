-- The stages before the last, and the join with the records.
use Rattle.std.specs.Prelude.{Ok, Err, IsErrAnd}
use Rattle.std.specs.Result.{IsErr}
use Rattle.syntax.specs.Refusals.{Resolved}
use Rattle.std.specs.Prelude.{if◌then◌else◌}
use Prim.Native.Nat.{ℕ, ◌+◌}
use mathlib.Core.Path.{◌≡◌, refl, sym, ◌∙◌, ap}
use mathlib.Core.Bool.{Bool, true, false}
use mathlib.Core.List.{List, []}
use lib.Dec.{ltb}
use lib.ListN.{length, get_or}
use native.Mathlib.Omega.{arith}
use Rattle.syntax.specs.Refusals.{refusal_of}
use Rattle.syntax.specs.declared.Refusal.{Refusal}
use Rattle.syntax.proofs.Ways.{handed}
use Rattle.area.specs.Layout.{BYTES, WORDS, STRICT, DECLARED}
use Rattle.definition.specs.Basic as Basic
use Rattle.definition.specs.Basic.{refusal, Answer, ok, fails, refused, ◌>>=◌, same_bytes}
use Rattle.definition.specs.Syntax.{Bytes, Identifier, Rec, Item, FuncType}
use Rattle.definition.specs.Read.{read}
use Rattle.definition.specs.Deinline.{Numbered, import_order, deinline}
use Rattle.definition.specs.Types.{all_types}
use Rattle.definition.specs.Names.{Items, Scope, space, definers, register}
use Rattle.definition.specs.Binary.{module'}
use Rattle.definition.specs.Assemble.{scope, items_in, items, resolved, fitting, Maker, module_in, named_module_in}
use Rattle.definition.specs.Assemble.{refusing, say, say_read, assemble_by}
use Rattle.laws.proofs.Passes.{scope_then}
use Rattle.laws.proofs.Interning.{came}
use Rattle.laws.specs.Steps.{total}
use Rattle.stream.specs.Pass.{reading, Reads}
use Rattle.type_table.specs.Table.{types_in}
use Rattle.walk.specs.Walk.{begin, fields_in, Ahead}
use Rattle.walk.proofs.Steps.{ahead-kept, ahead-below}
use Rattle.passes.proofs.Join.{fields_in_lem}
use Rattle.passes.proofs.Begin.{reads-accepted, reads-ahead, reads-long, reads_short}
use Rattle.passes.proofs.Counted.{reads-declared}
use Rattle.interning.specs.Declaring.{DeclaredAll}
use Rattle.survey.specs.Survey.{types_after_order, Stands, Surveys}
use Rattle.scope.specs.Scope.{scope_in}
use Rattle.sections.specs.Write.{module_items}
use Rattle.passes.specs.Passes.{Found, from_names, from_types, from_fields, Walkable, Begun, Unread, Begins, Resolvable, Named, Unnamed, Interns, PassesBy, Passes}
use Rattle.passes.specs.Passes.{makes, writes, said_by, ReadyBy, Prepares}
use Rattle.passes.specs.declared.Passed.{Passed}
use Rattle.area.specs.Flags.{strict_in, flag_put}
use Rattle.area.proofs.Flags.{flag-put, put-kept, flag-kept}
use Rattle.area.proofs.Kept.{kept_word}
use Rattle.area.specs.Lent.{Lent}

-- ## The order of imports, the types of uses, and the names

-- what refuses the types or the names refuses what follows them
falls_then : (a : Answer (List FuncType)) (b : Answer (Items Identifier)) (k : List FuncType → Items Identifier → Answer Found) (z : Basic.Refusal) → (a >>= λ _. b) ≡ fails z → (a >>= λ ts. b >>= k ts) ≡ fails z
unfolding ◌>>=◌
falls_then (ok ts) (ok xs) k z e = let y : ◌≡◌ {A = ℕ} 0 1 = cc in absurd (omega arith)
falls_then (ok ts) (fails q) k z e = let x : q ≡ z = cc in rw x refl
falls_then (fails q) b k z e = let x : q ≡ z = cc in rw x refl

module _ (s w : List ℕ) (w₁ : List ℕ) (u : Unit {0}) (h : Surveys s w (Ok u) w₁) where
  stands : Stands s w w₁
  unfolding Surveys
  stands = h

  scope-is : ◌≡◌ {A = Scope Identifier} (record { strict = strict_in w; eq = same_bytes; names = λ k. space k stands.items; definers = λ k. definers k stands.items; all_types = types_in s w₁ }) (scope_in s w₁)
  unfolding scope_in
  scope-is = let k = sym (flag-kept STRICT stands.kept (omega arith)) in λ i. record { strict = k i; eq = same_bytes; names = λ k. stands.tables.each k i; definers = λ k. stands.tables.made k i; all_types = types_in s w₁ }

  survey_finds : from_fields (strict_in w) (fields_in s) ≡ from_names (fields_in s) (scope_in s w₁)
  unfolding from_fields from_types ◌>>=◌
  survey_finds = let t = stands.all in let a = stands.says in rw (t, a, scope-is) refl

module _ (s w : List ℕ) (d : ℕ) (w₁ : List ℕ) (h : DeclaredAll s w d w₁) (a : Walkable s w) where
  pub declared-lent : Lent s w₁
  declared-lent = record { stream = a.lent.stream; area = rw h.kept.long a.lent.area }

  pub declared-ahead : Ahead s w₁ begin
  declared-ahead = ahead-kept s w w₁ begin h.kept a.ahead

  as_strict : strict_in w₁ ≡ strict_in w
  as_strict = flag-kept STRICT h.kept (omega arith)

  -- the order of imports was fine, so the types are those of the definition
  intern-done : (w₂ : List ℕ) (u : Unit {0}) → Surveys s w₁ (Ok u) w₂ → Interns s w (Ok u) w₂
  unfolding Interns types_after_order
  intern-done w₂ u g =
      let x = stands s w₁ w₂ u g in
      record {
        finds = ap (λ u. from_fields u (fields_in s)) (sym as_strict) ∙ survey_finds s w₁ w₂ u g;
        ready = record {
          lent = record { stream = a.lent.stream; area = rw x.kept.long declared-lent.area };
          ahead = ahead-kept s w₁ w₂ begin x.kept declared-ahead;
          recalled = x.recalled;
          typed = record { all = (came (import_order (fields_in s)) (λ _. all_types (fields_in s)) (types_in s w₂) x.all).2; size = x.size };
        };
        long = x.kept.long ∙ h.kept.long;
      }

  intern_not : (w₂ : List ℕ) (r : Refusal) → Surveys s w₁ (Err r) w₂ → Interns s w (Err r) w₂
  unfolding from_fields from_types Surveys Interns
  intern_not w₂ r y = record {
    finds = ap (λ u. from_fields u (fields_in s)) (sym as_strict) ∙ falls_then (types_after_order (fields_in s)) (register same_bytes [] (fields_in s)) _ (refusal_of r) y.says;
    long = y.long ∙ h.kept.long;
  }

  -- whatever the walk says
  pub interns_on : (q : Resolved (Unit {0})) (w₂ : List ℕ) → Surveys s w₁ q w₂ → Interns s w q w₂
  interns_on (Ok u) w₂ g = intern-done w₂ u g
  interns_on (Err r) w₂ g = intern_not w₂ r g

-- ## The records

-- what follows the types follows the order of imports and then them
order_then : (a : Answer (Unit {0})) (b : Answer (List FuncType)) (k : List FuncType → Answer Found) → ((a >>= λ _. b) >>= k) ≡ (a >>= λ _. b >>= k)
unfolding ◌>>=◌
order_then (ok u) b k = refl
order_then (fails q) b k = refl

-- the stages are the definition's passes
fields_found : (strict : Bool) (fs : Numbered Identifier) → from_fields strict fs ≡ (scope strict same_bytes fs >>= from_names fs)
unfolding from_fields types_after_order from_types
fields_found strict fs = order_then (import_order fs) (all_types fs) (from_types strict fs) ∙ sym (scope_then strict same_bytes fs (from_names fs))

-- what follows them, on what they find and on the items alone
found_then : (fs : Numbered Identifier) (a : Answer (Scope Identifier)) (k : Found → Answer Bytes) → (a >>= λ Γ. items_in Γ fs >>= λ is. k (Γ, is)) ≡ (a >>= from_names fs >>= k)
unfolding from_names ◌>>=◌
found_then fs (fails q) k = refl
found_then fs (ok Γ) k = go (items_in Γ fs)
  where
    go : (b : Answer (List Item)) → (b >>= λ is. k (Γ, is)) ≡ (◌>>=◌ {B = Found} b (λ is. ok (Γ, is)) >>= k)
    go (ok is) = refl
    go (fails q) = refl

items_then : (fs : Numbered Identifier) (a : Answer (Scope Identifier)) (k : List Item → Answer Bytes) → ((a >>= λ Γ. items_in Γ fs) >>= k) ≡ (a >>= λ Γ. items_in Γ fs >>= k)
unfolding ◌>>=◌
items_then fs (ok Γ) k = refl
items_then fs (fails q) k = refl

-- a call is its writer after the passes
made : (strict names : Bool) (room : ℕ) (rs : List (Rec Identifier)) → makes strict names room rs ≡ (from_fields strict (deinline rs) >>= λ x. fitting room (length rs) (writes names (deinline rs) x))
unfolding module_in resolved items named_module_in
made strict false room rs =
    rw (fields_found strict (deinline rs))
    (items_then (deinline rs) (scope strict same_bytes (deinline rs)) (λ is. fitting room (length rs) (module' is))
    ∙ found_then (deinline rs) (scope strict same_bytes (deinline rs)) (λ x. fitting room (length rs) (writes false (deinline rs) x)))
made strict true room rs =
    rw (fields_found strict (deinline rs)) (found_then (deinline rs) (scope strict same_bytes (deinline rs)) (λ x. fitting room (length rs) (writes true (deinline rs) x)))

-- what reading refuses the call refuses
read_not : (make : Maker) (s : Bytes) (work room : ℕ) (z : Basic.Refusal) → reading s work ≡ fails z → assemble_by make s work room ≡ refusing z
unfolding reading assemble_by say_read
read_not make s work room z e = go (ltb BYTES (length s)) (ltb work WORDS) (read s) e
  where
    go : (a b : Bool) (c : Answer (List (Rec Identifier))) → (if a then refused 1 0 else if b then refused 10 0 else total 0 c) ≡ fails z
        → (if a then refusing (refusal 1 0) else if b then refusing (refusal 10 0) else say_read make room c) ≡ refusing z
    go true b c e = let x : refusal 1 0 ≡ z = cc in ap refusing x
    go false true c e = let x : refusal 10 0 ≡ z = cc in ap refusing x
    go false false (ok rs) e = let y : ◌≡◌ {A = ℕ} 0 1 = cc in absurd (omega arith)
    go false false (fails q) e = let x : q ≡ z = cc in ap refusing x

-- what it accepts is assembled
read_ok : (make : Maker) (s : Bytes) (work room n : ℕ) (rs : List (Rec Identifier)) → read s ≡ ok rs → reading s work ≡ ok n → assemble_by make s work room ≡ say n (make room rs)
unfolding reading assemble_by say_read
read_ok make s work room n rs d e = go (ltb BYTES (length s)) (ltb work WORDS) e
  where
    go : (a b : Bool) → (if a then refused 1 0 else if b then refused 10 0 else total 0 (read s)) ≡ ok n
        → (if a then refusing (refusal 1 0) else if b then refusing (refusal 10 0) else say_read make room (read s)) ≡ say n (make room rs)
    go true b e = let z : ◌≡◌ {A = ℕ} 0 1 = cc in absurd (omega arith)
    go false true e = let z : ◌≡◌ {A = ℕ} 0 1 = cc in absurd (omega arith)
    go false false e =
        let f : ok (0 + length rs) ≡ ok n = (let g = e in rw d at g) in
        let x : 0 + length rs ≡ n = cc in
        let y : length rs ≡ n = omega arith in
        rw (d, y) refl

-- how many records there are
count_of : (s : Bytes) (work n : ℕ) (rs : List (Rec Identifier)) → read s ≡ ok rs → reading s work ≡ ok n → length rs ≡ n
unfolding reading
count_of s work n rs d e = go (ltb BYTES (length s)) (ltb work WORDS) e
  where
    go : (a b : Bool) → (if a then refused 1 0 else if b then refused 10 0 else total 0 (read s)) ≡ ok n → length rs ≡ n
    go true b e = let z : ◌≡◌ {A = ℕ} 0 1 = cc in absurd (omega arith)
    go false true e = let z : ◌≡◌ {A = ℕ} 0 1 = cc in absurd (omega arith)
    go false false e = let f : ok (0 + length rs) ≡ ok n = (let g = e in rw d at g) in let x : 0 + length rs ≡ n = cc in omega arith

-- the records were read, and whether the call is strict is written beyond what reading leaves
pub begins_on : (strict : Bool) (s w w₁ w₂ : List ℕ) (n : ℕ) → Reads s w (Ok n) w₁ → w₂ ≡ flag_put STRICT w₁ strict → length w₁ ≡ length w → Begins strict s w (Ok n) w₂
unfolding Begins
begins_on strict s w w₁ w₂ n h p l =
    let a = reads-accepted s w w₁ n h in
    let k = put-kept w₁ STRICT strict in
    let long : length w₂ ≡ length w₁ = ap length p ∙ k.long in
    let area = reads-long s w w₁ n h in
    record {
      recs = a.recs;
      is = a.is;
      says = h.says;
      strictness = ap strict_in p ∙ flag-put w₁ STRICT strict (omega (arith, area));
      ready = record {
        lent = record { stream = reads_short s w w₁ n h; area = rw long area };
        ahead = rw p (ahead-below s w₁ (flag_put STRICT w₁ strict) begin k (reads-ahead s w w₁ n h begin refl));
        declared_word = ap (λ x. get_or x DECLARED 0) p ∙ kept_word k DECLARED (omega arith) ∙ reads-declared s w w₁ n h;
      };
      long = long ∙ l;
    }

pub begins_not : (strict : Bool) (s w w₁ : List ℕ) (r : Refusal) → Reads s w (Err r) w₁ → length w₁ ≡ length w → (q : Resolved ℕ) → IsErr q → IsErrAnd q (λ e. e ≡ r) → Begins strict s w q w₁
unfolding Begins
begins_not strict s w w₁ r h l q i p = rw (handed q r i p) (record { says = h.says; long = l })

begun : (strict : Bool) (s w w₁ : List ℕ) (n : ℕ) → Begins strict s w (Ok n) w₁ → Begun strict s w n w₁
unfolding Begins
begun strict s w w₁ n h = h

-- reading refuses
pub prepare_unread : (strict : Bool) (s w w₁ b : List ℕ) (r : Refusal) → Begins strict s w (Err r) w₁ → (q : Resolved Passed) → IsErr q → IsErrAnd q (λ e. e ≡ r) → Prepares strict s w q w₁ b
unfolding Begins
prepare_unread strict s w w₁ b r h q i p =
    rw (handed q r i p) (record { says = λ names room. read_not (makes strict names) s (length w) room (refusal_of r) h.says; ready = tt; long = h.long })

-- a walk may begin
pub begun-ready : (strict : Bool) (s w w₁ : List ℕ) (n : ℕ) → Begins strict s w (Ok n) w₁ → Walkable s w₁
begun-ready strict s w w₁ n h = (begun strict s w w₁ n h).ready

module _ (s w w₁ : List ℕ) (u : Unit {0}) (h : Interns s w (Ok u) w₁) where
  named : Named s w w₁
  unfolding Interns
  named = h

  -- the fields may be resolved
  pub named-ready : Resolvable s w₁
  named-ready = named.ready

  -- and what they come to is found
  pub find-done : (count : ℕ) (p : Resolved Passed) (w₂ b : List ℕ) → Passes (from_names (fields_in s) (scope_in s w₁)) count s w₁ p w₂ b → Passes (from_fields (strict_in w) (fields_in s)) count s w p w₂ b
  find-done count p w₂ b y = let f = named.finds in record { says = rw f y.says; long = y.long ∙ named.long }

-- the types or the names are refused
pub find_not : (s w w₁ b : List ℕ) (count : ℕ) (r : Refusal) → Interns s w (Err r) w₁ → (p : Resolved Passed) → IsErr p → IsErrAnd p (λ e. e ≡ r) → Passes (from_fields (strict_in w) (fields_in s)) count s w p w₁ b
unfolding Interns
find_not s w w₁ b count r h p i k = rw (handed p r i k) (record { says = h.finds; long = h.long })

-- ## All passes

-- what the passes over the fields find is what the call's writer is given
module _ (strict : Bool) (s w : List ℕ) (n : ℕ) (w₁ : List ℕ) (h : Begun strict s w n w₁) (w₂ b : List ℕ) where
  whole : (names : Bool) (room : ℕ)
      → assemble_by (makes strict names) s (length w) room ≡ say n (from_fields strict (fields_in s) >>= λ x. fitting room n (writes names (fields_in s) x))
  whole names room =
      let number : length h.recs ≡ n = count_of s (length w) n h.recs h.is h.says in
      let m : makes strict names room h.recs ≡ (from_fields strict (fields_in s) >>= λ x. fitting room n (writes names (fields_in s) x)) =
      made strict names room h.recs ∙ rw (fields_in_lem s h.recs h.is, number) refl in
      read_ok (makes strict names) s (length w) room n h.recs h.is h.says ∙ ap (say n) m

  ends : (names : Bool) (room : ℕ) (p : Resolved Passed) → PassesBy p (from_fields strict (fields_in s)) n s w₂ b
      → say n (from_fields strict (fields_in s) >>= λ x. fitting room n (writes names (fields_in s) x))
      ≡ said_by p room (writes names (fields_in s) (scope_in s w₂, module_items s w₂))
  unfolding ◌>>=◌ say
  ends names room (Ok p) z = let f = z.found in let c = z.records in rw (f, c) refl
  ends names room (Err r) z = rw z refl

  prepared : (p : Resolved Passed) → PassesBy p (from_fields strict (fields_in s)) n s w₂ b → ReadyBy p s w₂ b
  prepared (Ok p) z = z.ready
  prepared (Err r) z = tt

  prepares : (p : Resolved Passed) → PassesBy p (from_fields strict (fields_in s)) n s w₂ b → length w₂ ≡ length w → Prepares strict s w p w₂ b
  prepares p y l = record { says = λ names room. whole names room ∙ ends names room p y; ready = prepared p y; long = l }

-- the records are read, and then their fields
pub prepare_done : (strict : Bool) (s w : List ℕ) (p : Resolved Passed) (w₂ b : List ℕ) (n : ℕ) (w₁ : List ℕ) → Passes (from_fields (strict_in w₁) (fields_in s)) n s w₁ p w₂ b
    → Begins strict s w (Ok n) w₁ → Prepares strict s w p w₂ b
prepare_done strict s w p w₂ b n w₁ a h =
    let g = begun strict s w w₁ n h in
    let f : from_fields strict (fields_in s) ≡ from_fields (strict_in w₁) (fields_in s) = ap (λ u. from_fields u (fields_in s)) (sym g.strictness) in
    prepares strict s w n w₁ g w₂ b p (rw f a.says) (a.long ∙ g.long)
