-- What the records of a stream declare is what their fields declare; and what they ask for is what their fields use, in flat order.
use Rattle.std.specs.Prelude.{if◌then◌else◌}
use Prim.Native.Nat.{ℕ, zero, suc, ◌+◌, ◌-◌}
use mathlib.Core.Path.{◌≡◌, refl, ap, ◌∙◌, sym}
use mathlib.Core.Bool.{Bool, true, false}
use mathlib.Core.List.Memᴰ
use mathlib.Core.List.{List, [], ◌∷◌, ◌++◌, map, map-append, append_assoc, append-nil, Memᴰ}
use mathlib.Core.Option.{Option, none, some}
use mathlib.Core.Logic.{◌⊎◌, inl, inr}
use lib.Dec.{leb}
use lib.ListN.{length}
use borrow.Author.Tests.{leb-true, leb-false}
use native.Mathlib.Omega.{arith}
use Rattle.definition.specs.Basic.{ok, concat_map}
use Rattle.definition.specs.Syntax as Syntax
use Rattle.definition.specs.Syntax.{Bytes, Identifier, Space, FuncType, ExternType, Index, absent, number, named, TypeUse, Instr, Own, Source, FieldRec, Rec, field, instr, folded, body_end, Body, own_index}
use Rattle.definition.specs.Reader.{got}
use Rattle.definition.specs.Records.{Room, field_rec}
use Rattle.definition.specs.Instructions.{Inside, begun, inside_after, complete, awaiting, folded_after}
use Rattle.definition.specs.Read.{Seen, seen_after, body_after, own_body, source_body, field_body, record_in, one_record, room, records, at_end, nothing_seen, read}
use Rattle.definition.specs.Spaces.{source_space, brings, count}
use Rattle.definition.specs.Folded.{Waiting, follow, still, flatten, body_of}
use Rattle.definition.specs.Deinline.{Numbered, source_fields, fields_of, deinline_from, deinline}
use Rattle.definition.specs.Types.{Uses, signature, is_short, unless_indexed, use_of, instr_uses, body_uses, extern_uses, own_uses, field_uses, uses, declared_by, declared, used_at}
use Rattle.laws.specs.TypeLists.{asked_by, use_asks, instr_asks, extern_asks, own_asks, source_asks, field_asks, asked, field_declares, declared_in}
use Rattle.laws.proofs.Backwards.{came}
use Rattle.laws.proofs.Bodies.{no_field, end_not_due}
use Rattle.laws.proofs.Reading.{records_end, records_full, accepted-next}
use Rattle.laws.proofs.Declared.{declared-append, item-declares}
use Rattle.laws.proofs.Uses.{uses-append}
use Rattle.laws.proofs.Smallest.{signatures}

-- ## Declared types

field-declares : (r : ℕ) (next : Space → ℕ) (f : FieldRec Identifier) (b : Body Identifier)
    → declared (map (λ x. (r, x)) (fields_of next f b)) ≡ field_declares f
unfolding declared declared_by fields_of
field-declares r next (Syntax.type_r i t) b = refl
field-declares r next (Syntax.import_r n i d) b = refl
field-declares r next (Syntax.item_r i es x) b = item-declares r i b (source_space x) (next (source_space x)) es x
field-declares r next (Syntax.export_r n k x) b = refl
field-declares r next (Syntax.start_r x) b = refl
field-declares r next (Syntax.elem_r i m xs) b = refl
field-declares r next (Syntax.data_r i m d) b = refl

declared-from : (r : ℕ) (seen : List Space) (rs : List (Rec Identifier)) → declared (deinline_from r seen rs) ≡ declared_in rs
unfolding deinline_from declared_in concat_map
declared-from r seen [] = unfold declared in refl
declared-from r seen (field f ∷ rs) =
    declared-append (map (λ x. (r, x)) (fields_of (λ k. count k seen) f (body_of (r + 1) rs))) (deinline_from (r + 1) (brings f ++ seen) rs)
    ∙ rw (field-declares r (λ k. count k seen) f (body_of (r + 1) rs), declared-from (r + 1) (brings f ++ seen) rs) refl
declared-from r seen (instr x ∷ rs) = declared-from (r + 1) seen rs
declared-from r seen (folded x n ∷ rs) = declared-from (r + 1) seen rs
declared-from r seen (body_end ∷ rs) = declared-from (r + 1) seen rs

pub declared-records : (rs : List (Rec Identifier)) → declared (deinline rs) ≡ declared_in rs
unfolding deinline
declared-records rs = declared-from 0 [] rs

-- ## Where records stand

-- outside a body fields, in a body instructions and its end, where no operand is due
abbrev Placed : Option Inside → List (Rec Identifier) → Type 0
Placed none [] = Unit {0}
Placed none (field f ∷ rs) = Placed (field_body f) rs
Placed none (instr x ∷ rs) = ⊥
Placed none (folded x n ∷ rs) = ⊥
Placed none (body_end ∷ rs) = ⊥
Placed (some i) [] = ⊥
Placed (some i) (field f ∷ rs) = ⊥
Placed (some i) (instr x ∷ rs) = Placed (some (inside_after x i)) rs
Placed (some i) (folded x n ∷ rs) = Placed (some (folded_after n i)) rs
Placed (some i) (body_end ∷ rs) = (i.due ≡ []) × Placed none rs

module _ (free : Room) (s : Bytes) (here q : ℕ) (rs : List (Rec Identifier)) where
  placed_one : (body : Option Inside) (x : Rec Identifier) → record_in free body s here ≡ got x q → Placed (body_after body x) rs → Placed body (x ∷ rs)
  unfolding body_after
  placed_one none (field f) e p = p
  placed_one none (instr x) e p = let c = came (field_rec free s here) e in let d = c.rest in let z : ◌≡◌ {A = ℕ} 0 1 = cc in absurd (omega arith)
  placed_one none (folded x n) e p = let c = came (field_rec free s here) e in let d = c.rest in let z : ◌≡◌ {A = ℕ} 0 1 = cc in absurd (omega arith)
  placed_one none body_end e p = let c = came (field_rec free s here) e in let d = c.rest in let z : ◌≡◌ {A = ℕ} 0 1 = cc in absurd (omega arith)
  placed_one (some i) (field f) e p = absurd (no_field i s here f q e)
  placed_one (some i) (instr x) e p = p
  placed_one (some i) (folded x n) e p = p
  placed_one (some i) body_end e p = (end_not_due i s here q e, p)

placed_end : (r : ℕ) (body : Option Inside) (rs : List (Rec Identifier)) → at_end r body ≡ ok rs → Placed body rs
placed_end r none rs e = let z : rs ≡ [] = cc in rw z tt
placed_end r (some i) rs e = let z : ◌≡◌ {A = ℕ} 0 1 = cc in absurd (omega arith)

placed_here : (seen : Seen) (s : Bytes) (here : ℕ) (x : Rec Identifier) (q : ℕ) (rs : List (Rec Identifier)) → one_record seen s here ≡ got x q
    → Placed (seen_after seen x).body rs → Placed seen.body (x ∷ rs)
unfolding one_record seen_after
placed_here seen s here x q rs e p = placed_one (room seen) s here q rs seen.body x e p

placed : (left r : ℕ) (seen : Seen) (s : Bytes) (here : ℕ) (rs : List (Rec Identifier)) → records left r seen s here ≡ ok rs → Placed seen.body rs
placed zero r seen s here rs e = go (leb (length s) here) refl
  where
    go : (t : Bool) → leb (length s) here ≡ t → Placed seen.body rs
    go true d = placed_end r seen.body rs (sym (records_end r seen s here 0 (leb-true _ _ d)) ∙ e)
    go false d =
        let f = sym (records_full r seen s here 0 (leb-false _ _ d) refl) ∙ e in
        let z : ◌≡◌ {A = ℕ} 0 1 = cc in absurd (omega arith)
placed (suc left) r seen s here rs e = go (leb (length s) here) refl (placed left)
  where
    go : (t : Bool) → leb (length s) here ≡ t
        → ((r : ℕ) (seen : Seen) (s : Bytes) (here : ℕ) (rs : List (Rec Identifier)) → records left r seen s here ≡ ok rs → Placed seen.body rs) → Placed seen.body rs
    go true d f = placed_end r seen.body rs (sym (records_end r seen s here (suc left) (leb-true _ _ d)) ∙ e)
    go false d f =
        let n = accepted-next left r seen s here rs (leb-false _ _ d) e in
        rw n.is (placed_here seen s here n.rec n.next n.rest n.reads (f (r + 1) (seen_after seen n.rec) s n.next n.rest n.goes_on))

-- ## Uses

index-asks : (t : FuncType) (x : Index Identifier) → unless_indexed t x ≡ asked_by x t
index-asks t absent = refl
index-asks t (number n) = refl
index-asks t (named i) = refl
index-asks t (own_index n) = refl

use_asks_lem : (t : TypeUse Identifier) → use_of t ≡ use_asks t
unfolding use_of signature
use_asks_lem t = index-asks (signature t) t.index

instr-asks : (x : Instr Identifier) → instr_uses x ≡ instr_asks x
unfolding instr_uses is_short
instr-asks (Syntax.opens op l t) = ap (λ (ts : List FuncType). if is_short t then [] else ts) (use_asks_lem t)
instr-asks (Syntax.elses l) = refl
instr-asks (Syntax.ends l) = refl
instr-asks (Syntax.indirect x t) = use_asks_lem t
instr-asks (Syntax.plain p) = refl

extern_asks_lem : (d : ExternType (TypeUse Identifier)) → extern_uses d ≡ extern_asks d
unfolding extern_uses
extern_asks_lem (Syntax.func t) = use_asks_lem t
extern_asks_lem (Syntax.table t) = refl
extern_asks_lem (Syntax.mem l) = refl
extern_asks_lem (Syntax.global g) = refl

used-at : (r : ℕ) (ts : List FuncType) → signatures (used_at r ts) ≡ ts
used-at r [] = refl
used-at r (t ∷ ts) = ap (λ (us : List FuncType). t ∷ us) (used-at r ts)

-- what is used in the body that follows, if one does
abbrev in_body : Option Inside → Body Identifier → Uses
in_body none b = []
in_body (some i) b = body_uses b

module _ (r : ℕ) (i : Option Identifier) (b : Body Identifier) where
  own-asks : (o : Own Identifier) → (own_body o ≡ none → b ≡ []) → signatures (used_at r (own_uses o) ++ body_uses b) ≡ own_asks o ++ signatures (in_body (own_body o) b)
  unfolding own_uses own_body body_uses
  own-asks (Syntax.own_func t ls) n = rw (map-append, used-at r (use_of t), use_asks_lem t) refl
  own-asks (Syntax.own_table t) n = rw (n refl) refl
  own-asks (Syntax.own_mem l) n = rw (n refl) refl
  own-asks (Syntax.own_global t c) n = rw (n refl) refl

  source-asks : (k : ℕ) (x : Source Identifier) → (source_body x ≡ none → b ≡ [])
      → signatures (uses (map (λ z. (r, z)) (source_fields i k x b))) ≡ source_asks x ++ signatures (in_body (source_body x) b)
  unfolding uses field_uses source_fields source_body body_uses own_uses
  source-asks k (Syntax.own o) n = rw (append-nil (used_at r (own_uses o) ++ body_uses b)) (own-asks o n)
  source-asks k (Syntax.imported m d) n = rw (append-nil (used_at r (extern_uses d)), append-nil (extern_asks d), used-at r (extern_uses d)) (extern_asks_lem d)
  source-asks k (Syntax.table_of w xs) n = refl
  source-asks k (Syntax.mem_of w d) n = refl

  -- exports use none
  item-asks : (k : ℕ) (sp : Space) (es : List Bytes) (x : Source Identifier) → (source_body x ≡ none → b ≡ [])
      → signatures (uses (map (λ z. (r, z)) (map (λ e. Syntax.export_f e sp (Syntax.own_index k)) es ++ source_fields i k x b)))
      ≡ source_asks x ++ signatures (in_body (source_body x) b)
  unfolding uses field_uses
  item-asks k sp [] x n = source-asks k x n
  item-asks k sp (e ∷ es) x n = item-asks k sp es x n

field-asks : (r : ℕ) (next : Space → ℕ) (f : FieldRec Identifier) (b : Body Identifier) → (field_body f ≡ none → b ≡ [])
    → signatures (uses (map (λ x. (r, x)) (fields_of next f b))) ≡ field_asks f ++ signatures (in_body (field_body f) b)
unfolding uses field_uses fields_of field_body
field-asks r next (Syntax.type_r i t) b n = refl
field-asks r next (Syntax.import_r m i d) b n = rw (append-nil (used_at r (extern_uses d)), append-nil (extern_asks d), used-at r (extern_uses d)) (extern_asks_lem d)
field-asks r next (Syntax.item_r i es x) b n = item-asks r i b (next (source_space x)) (source_space x) es x n
field-asks r next (Syntax.export_r m k x) b n = refl
field-asks r next (Syntax.start_r x) b n = refl
field-asks r next (Syntax.elem_r i m xs) b n = refl
field-asks r next (Syntax.data_r i m d) b n = refl

body-asks : (q : ℕ) (x : Instr Identifier) (b : Body Identifier) → signatures (body_uses ((q, x) ∷ b)) ≡ instr_asks x ++ signatures (body_uses b)
unfolding body_uses
body-asks q x b = rw (map-append, used-at q (instr_uses x), instr-asks x) refl

body-append : (b d : Body Identifier) → signatures (body_uses (b ++ d)) ≡ signatures (body_uses b) ++ signatures (body_uses d)
unfolding body_uses
body-append [] d = refl
body-append ((r, x) ∷ b) d = body-asks r x (b ++ d) ∙ rw (body-append b d, body-asks r x b, append_assoc (instr_asks x)) refl

no_body : (body : Option Inside) (q : ℕ) (rs : List (Rec Identifier)) → Placed body rs → body ≡ none → body_of q rs ≡ []
unfolding body_of flatten
no_body none q [] p n = refl
no_body none q (field f ∷ rs) p n = refl
no_body none q (instr x ∷ rs) p n = absurd p
no_body none q (folded x m ∷ rs) p n = absurd p
no_body none q (body_end ∷ rs) p n = refl
no_body (some i) q rs p n = let z : ◌≡◌ {A = ℕ} 0 1 = cc in absurd (omega arith)

-- ## The same signatures in another order

pub record Alike (ts us : List FuncType) : Type 0 where
  pub to : (t : FuncType) → Memᴰ t ts → Memᴰ t us
  pub from : (t : FuncType) → Memᴰ t us → Memᴰ t ts

equal : {ts us : List FuncType} → ts ≡ us → Alike ts us
equal e = record { to = λ t m. rw e at m; from = λ t m. rw (sym e) at m }

and_so : {ts us vs : List FuncType} → Alike ts us → Alike us vs → Alike ts vs
and_so a b = record { to = λ t m. b.to t (a.to t m); from = λ t m. a.from t (b.from t m) }

module _ (t : FuncType) where
  under : (ts : List FuncType) {us vs : List FuncType} → (Memᴰ t us → Memᴰ t vs) → Memᴰ t (ts ++ us) → Memᴰ t (ts ++ vs)
  under ts {us} {vs} f m = go (Memᴰ.append_cases ts m)
    where
      go : Memᴰ t ts ⊎ Memᴰ t us → Memᴰ t (ts ++ vs)
      go (inl n) = Memᴰ.append_left vs n
      go (inr n) = Memᴰ.append_right ts (f n)

  swapped : (ts us vs : List FuncType) → Memᴰ t (ts ++ (us ++ vs)) → Memᴰ t (us ++ (ts ++ vs))
  swapped ts us vs m = go (Memᴰ.append_cases ts m)
    where
      within : Memᴰ t us ⊎ Memᴰ t vs → Memᴰ t (us ++ (ts ++ vs))
      within (inl n) = Memᴰ.append_left (ts ++ vs) n
      within (inr n) = Memᴰ.append_right us (Memᴰ.append_right ts n)

      go : Memᴰ t ts ⊎ Memᴰ t (us ++ vs) → Memᴰ t (us ++ (ts ++ vs))
      go (inl n) = Memᴰ.append_right us (Memᴰ.append_left vs n)
      go (inr n) = within (Memᴰ.append_cases us n)

after : (ts : List FuncType) {us vs : List FuncType} → Alike us vs → Alike (ts ++ us) (ts ++ vs)
after ts a = record { to = λ t m. under t ts (a.to t) m; from = λ t m. under t ts (a.from t) m }

swap : (ts us vs : List FuncType) → Alike (ts ++ (us ++ vs)) (us ++ (ts ++ vs))
swap ts us vs = record { to = λ t m. swapped t ts us vs m; from = λ t m. swapped t us ts vs m }

-- ## Operators that wait

abbrev counts : Waiting Identifier → List ℕ
counts ws = map (λ w. w.0) ws

abbrev waiting_asks : Waiting Identifier → List FuncType
waiting_asks ws = concat_map (λ w. instr_asks w.2) ws

-- as many operands are due as operators wait for
still-counts : (ws : Waiting Identifier) → counts (still ws) ≡ complete (counts ws)
unfolding still complete
still-counts [] = refl
still-counts ((n, r, x) ∷ ws) = go (leb n 1) (still-counts ws)
  where
    go : (t : Bool) → counts (still ws) ≡ complete (counts ws)
        → counts (if t then still ws else (n - 1, r, x) ∷ ws) ≡ (if t then complete (counts ws) else (n - 1) ∷ counts ws)
    go true e = e
    go false e = refl

-- those that come and those that still wait are all
follow-asks : (ws : Waiting Identifier) → waiting_asks ws ≡ signatures (body_uses (follow ws)) ++ waiting_asks (still ws)
unfolding follow still concat_map
follow-asks [] = unfold body_uses in refl
follow-asks ((n, r, x) ∷ ws) = go (leb n 1) (follow-asks ws)
  where
    go : (t : Bool) → waiting_asks ws ≡ signatures (body_uses (follow ws)) ++ waiting_asks (still ws)
        → instr_asks x ++ waiting_asks ws
        ≡ signatures (body_uses (if t then (r, x) ∷ follow ws else [])) ++ waiting_asks (if t then still ws else (n - 1, r, x) ∷ ws)
    go true e = rw (e, body-asks r x (follow ws), append_assoc (instr_asks x)) refl
    go false e = unfold body_uses in refl

-- ## All records

-- the uses of all fields, and before them those of the body in which the records begin, where these operators wait
abbrev UsesAsked : Option Inside → Waiting Identifier → ℕ → List Space → List (Rec Identifier) → Type 0
UsesAsked none ws r seen rs = Alike (signatures (uses (deinline_from r seen rs))) (asked rs)
UsesAsked (some i) ws r seen rs =
    counts ws ≡ i.due → Alike (signatures (body_uses (flatten r ws rs)) ++ signatures (uses (deinline_from r seen rs))) (waiting_asks ws ++ asked rs)

-- at a body's beginning no operand is due
own_not_due : (o : Own Identifier) (i : Inside) → own_body o ≡ some i → [] ≡ i.due
unfolding own_body
own_not_due (Syntax.own_func t ls) i e = let z : begun ≡ i = cc in ap (λ (x : Inside). x.due) z
own_not_due (Syntax.own_table t) i e = let z : ◌≡◌ {A = ℕ} 0 1 = cc in absurd (omega arith)
own_not_due (Syntax.own_mem l) i e = let z : ◌≡◌ {A = ℕ} 0 1 = cc in absurd (omega arith)
own_not_due (Syntax.own_global t c) i e = let z : ◌≡◌ {A = ℕ} 0 1 = cc in absurd (omega arith)

source_not_due : (x : Source Identifier) (i : Inside) → source_body x ≡ some i → [] ≡ i.due
unfolding source_body
source_not_due (Syntax.own o) i e = own_not_due o i e
source_not_due (Syntax.imported n d) i e = let z : ◌≡◌ {A = ℕ} 0 1 = cc in absurd (omega arith)
source_not_due (Syntax.table_of w xs) i e = let z : ◌≡◌ {A = ℕ} 0 1 = cc in absurd (omega arith)
source_not_due (Syntax.mem_of w d) i e = let z : ◌≡◌ {A = ℕ} 0 1 = cc in absurd (omega arith)

pub not_due : (f : FieldRec Identifier) (i : Inside) → field_body f ≡ some i → [] ≡ i.due
unfolding field_body
not_due (Syntax.type_r j t) i e = let z : ◌≡◌ {A = ℕ} 0 1 = cc in absurd (omega arith)
not_due (Syntax.import_r n j d) i e = let z : ◌≡◌ {A = ℕ} 0 1 = cc in absurd (omega arith)
not_due (Syntax.item_r j es x) i e = source_not_due x i e
not_due (Syntax.export_r n k x) i e = let z : ◌≡◌ {A = ℕ} 0 1 = cc in absurd (omega arith)
not_due (Syntax.start_r x) i e = let z : ◌≡◌ {A = ℕ} 0 1 = cc in absurd (omega arith)
not_due (Syntax.elem_r j m xs) i e = let z : ◌≡◌ {A = ℕ} 0 1 = cc in absurd (omega arith)
not_due (Syntax.data_r j m d) i e = let z : ◌≡◌ {A = ℕ} 0 1 = cc in absurd (omega arith)

after-field : (b : Option Inside) → ((i : Inside) → b ≡ some i → [] ≡ i.due) → (r : ℕ) (seen : List Space) (rs : List (Rec Identifier)) → UsesAsked b [] r seen rs
    → Alike (signatures (in_body b (body_of r rs)) ++ signatures (uses (deinline_from r seen rs))) (asked rs)
unfolding body_of concat_map
after-field none n r seen rs h = h
after-field (some i) n r seen rs h = h (n i refl)

uses-from : (body : Option Inside) (rs : List (Rec Identifier)) → Placed body rs → (ws : Waiting Identifier) (r : ℕ) (seen : List Space) → UsesAsked body ws r seen rs
unfolding deinline_from asked flatten concat_map folded_after awaiting inside_after
uses-from none [] p ws r seen = unfold uses in equal refl
uses-from none (field f ∷ rs) p ws r seen =
    let next : Space → ℕ = λ k. count k seen in
    let here : Numbered Identifier = map (λ x. (r, x)) (fields_of next f (body_of (r + 1) rs)) in
    let later = deinline_from (r + 1) (brings f ++ seen) rs in
    and_so
    (equal
    (ap signatures (uses-append here later)
    ∙ map-append (λ u. u.1) (uses here) (uses later)
    ∙ ap (λ (ts : List FuncType). ts ++ signatures (uses later)) (field-asks r next f (body_of (r + 1) rs) (no_body (field_body f) (r + 1) rs p))
    ∙ append_assoc (field_asks f) (signatures (in_body (field_body f) (body_of (r + 1) rs))) (signatures (uses later))))
    (after (field_asks f) (after-field (field_body f) (not_due f) (r + 1) (brings f ++ seen) rs (uses-from (field_body f) rs p [] (r + 1) (brings f ++ seen))))
uses-from none (instr x ∷ rs) p ws r seen = absurd p
uses-from none (folded x n ∷ rs) p ws r seen = absurd p
uses-from none (body_end ∷ rs) p ws r seen = absurd p
uses-from (some i) [] p ws r seen = absurd p
uses-from (some i) (field f ∷ rs) p ws r seen = absurd p
uses-from (some i) (instr x ∷ rs) p ws r seen = λ d.
    let later = signatures (uses (deinline_from (r + 1) seen rs)) in
    and_so
    (equal
    (ap (λ (ts : List FuncType). ts ++ later) (body-asks r x (flatten (r + 1) ws rs))
    ∙ append_assoc (instr_asks x) (signatures (body_uses (flatten (r + 1) ws rs))) later))
    (and_so (after (instr_asks x) (uses-from (some (inside_after x i)) rs p ws (r + 1) seen d)) (swap (instr_asks x) (waiting_asks ws) (asked rs)))
uses-from (some i) (folded x zero ∷ rs) p ws r seen = λ d.
    let later = signatures (uses (deinline_from (r + 1) seen rs)) in
    let rest = flatten (r + 1) (still ws) rs in
    let come = signatures (body_uses (follow ws)) in
    let ih = uses-from (some (folded_after 0 i)) rs p (still ws) (r + 1) seen (still-counts ws ∙ ap complete d) in
    and_so
    (equal
    (ap (λ (ts : List FuncType). ts ++ later) (body-asks r x (follow ws ++ rest) ∙ ap (λ (ts : List FuncType). instr_asks x ++ ts) (body-append (follow ws) rest))
    ∙ rw (append_assoc (instr_asks x), append_assoc come) refl))
    (and_so (after (instr_asks x) (and_so (after come ih) (equal (rw (follow-asks ws, append_assoc come) refl)))) (swap (instr_asks x) (waiting_asks ws) (asked rs)))
uses-from (some i) (folded x (suc n) ∷ rs) p ws r seen = λ d.
    and_so (uses-from (some (folded_after (suc n) i)) rs p ((suc n, r, x) ∷ ws) (r + 1) seen (ap (λ (ns : List ℕ). suc n ∷ ns) d))
    (and_so (equal (append_assoc (instr_asks x) (waiting_asks ws) (asked rs))) (swap (instr_asks x) (waiting_asks ws) (asked rs)))
uses-from (some i) (body_end ∷ rs) p ws r seen = λ d. go ws (d ∙ p.0) (uses-from none rs p.1 [] (r + 1) seen)
  where
    go : (ws : Waiting Identifier) → counts ws ≡ [] → Alike (signatures (uses (deinline_from (r + 1) seen rs))) (asked rs)
        → Alike (signatures (body_uses {I = Identifier} []) ++ signatures (uses (deinline_from (r + 1) seen rs))) (waiting_asks ws ++ asked rs)
    go [] n h = unfold body_uses in h
    go (w ∷ ws) n h = let z : ◌≡◌ {A = ℕ} 0 1 = cc in absurd (omega arith)

-- every signature that is asked for is used, and every one that is used is asked for
pub uses-records : (s : Bytes) (rs : List (Rec Identifier)) → read s ≡ ok rs → Alike (signatures (uses (deinline rs))) (asked rs)
unfolding deinline read nothing_seen
uses-records s rs e = uses-from none rs (placed 4096 0 nothing_seen s 0 rs e) [] 0 []
