-- A body of an accepted stream: what the walk makes of it is what the definition reads.
use mathlib.Core.Path.{◌≡◌, refl, ap, sym, ◌∙◌, subst}
use Prim.Native.Nat.{ℕ, zero, suc, ◌+◌, ◌-◌, ◌≤◌, ◌<◌}
use mathlib.Core.Bool.{Bool, true, false, ◌||◌}
use mathlib.Core.List.{List, [], ◌∷◌, ◌++◌, append-nil, append_assoc}
use mathlib.Core.Option.{none, some}
use lib.ListN.{length}
use borrow.Author.Tests.{lt-leb}
use native.Mathlib.Omega.{arith}
use native.Mathlib.Decide.{dec_le}
use Rattle.definition.specs.Basic.{Answer, ok, refused, any}
use Rattle.definition.specs.Syntax.{Bytes, Identifier, Space, Instr, Rec, field, instr, folded, body_end, Body}
use Rattle.definition.specs.Reader.{got}
use Rattle.definition.specs.Instructions.{Blocks, Inside, open_after, inside_after, complete, awaiting, folded_after, body_rec}
use Rattle.definition.specs.Read as Read
use Rattle.definition.specs.Read.{seen_after, body_after, items_after, started_after, one_record, at_end, records}
use Rattle.definition.specs.Folded.{follow, still, flatten, body_of}
use Rattle.definition.specs.Deinline.{deinline_from}
use Rattle.laws.proofs.Bodies.{no_field, end_not_due, instr_not_due, folded-fold, after-length, reads-deep}
use Rattle.laws.proofs.Folded.{Trees, flat_one}
use Rattle.laws.proofs.Folded as Folded
use Rattle.laws.proofs.Reading.{records_end, records_full, accepted-next}
use Rattle.instr.specs.Bodies.{Stretch, nothing, joined, before, operator_last, operands_by, tree_at, body_from}
use Rattle.instr.proofs.Heads.{stands}
use Rattle.instr.proofs.Stretches.{tree_is, tree_later, body-turn}
use Rattle.next_record.specs.Uses.{may_use, any_use, names_data, end_word}
use Rattle.stream.specs.Pass.{pass}
use Rattle.stream.proofs.Model.{pass-got}

-- ## Records of a stream that is accepted

module _ (r : ℕ) (seen : Read.Seen) (s : Bytes) (here : ℕ) (rs : List (Rec Identifier)) where
  -- outside a body the stream may end, and then there are no more records
  pub at_end_lem : (left : ℕ) → length s ≤ here → records left r seen s here ≡ ok rs → seen.body ≡ none → rs ≡ []
  at_end_lem left h e b =
      let d : ◌≡◌ {A = Answer (List (Rec Identifier))} (ok []) (ok rs) = ap (at_end r) (sym b) ∙ sym (records_end r seen s here left h) ∙ e in
      cc

  -- in a body it may not
  not_in_body : (left : ℕ) (j : Inside) → length s ≤ here → records left r seen s here ≡ ok rs → seen.body ≡ some j → ⊥
  not_in_body left k h e b =
      let d : ◌≡◌ {A = Answer (List (Rec Identifier))} (refused 2 r) (ok rs) = ap (at_end r) (sym b) ∙ sym (records_end r seen s here left h) ∙ e in
      let z : ◌≡◌ {A = ℕ} 0 1 = cc in omega arith

  -- one record more is one of those that are left
  pub some_left : (left : ℕ) → here < length s → records left r seen s here ≡ ok rs → 0 < left
  some_left zero h e =
      let d = sym (records_full r seen s here zero h refl) ∙ e in
      let z : ◌≡◌ {A = ℕ} 0 1 = cc in absurd (omega arith)
  some_left (suc n) h e = omega arith

-- ## What the instructions of a body do

pub or_none : (u : Bool) → u ≡ u || false
or_none true = refl
or_none false = refl

pub or_more : (t u v : Bool) → (t || u) || v ≡ t || (u || v)
or_more true u v = refl
or_more false u v = refl

-- the operator is read first, and comes last
or_last : (t u v : Bool) → (t || u) || v ≡ t || (v || (u || false))
or_last true u v = refl
or_last false true true = refl
or_last false true false = refl
or_last false false true = refl
or_last false false false = refl

abbrev pub any_names : Body Identifier → Bool
any_names b = any (λ x. names_data x.1) b

uses-append : (xs ys : Body Identifier) → any_use (xs ++ ys) ≡ any_use xs || any_use ys
unfolding any_use
uses-append [] ys = refl
uses-append ((r, x) ∷ xs) ys = rw (uses-append xs ys) (sym (or_more (may_use x) (any_use xs) (any_use ys)))

names-append : (xs ys : Body Identifier) → any_names (xs ++ ys) ≡ any_names xs || any_names ys
unfolding any
names-append [] ys = refl
names-append ((r, x) ∷ xs) ys = rw (names-append xs ys) (sym (or_more (names_data x) (any_names xs) (any_names ys)))

-- an operand is complete where one or more were due: one fewer is
complete-one : (n : ℕ) (ds : List ℕ) → complete (suc n ∷ ds) ≡ awaiting n ds
unfolding complete awaiting
complete-one zero ds = refl
complete-one (suc n) ds = let m : suc (suc n) - 1 ≡ suc n = omega arith in rw (lt-leb (suc (suc n)) 1 (omega arith), m)

-- ## Folded records

module _ (s : Bytes) (items : List Space) (started : Bool) (blocks : Blocks) where
  -- in a body where so many operands are due
  abbrev pub within : List ℕ → Inside
  within ds = record { blocks = blocks; due = ds }

  abbrev pub seen_in : List ℕ → Read.Seen
  seen_in ds = record { items = items; body = some (within ds); started = started }

  -- behind what the walk makes of folded records the definition reads on, where these operands are due
  record Past (t : Stretch) (left r : ℕ) (ds : List ℕ) (here : ℕ) (rs : List (Rec Identifier)) (due : List ℕ) : Type 0 where
    later : ℕ
    rest : List (Rec Identifier)
    goes_on : records later t.rec (seen_in due) s t.at ≡ ok rest
    sum : later + t.rec ≡ left + r
    whole : t.whole ≡ true
    fields : (seen : List Space) → deinline_from r seen rs ≡ deinline_from t.rec seen rest
    passes : (used named : Bool) (ends : List ℕ)
        → pass left r (seen_in ds) used named ends s here ≡ pass later t.rec (seen_in due) (used || any_use t.body) (named || any_names t.body) ends s t.at

  -- one with its operands, which come before its operator
  record Tree (t : Stretch) (x : Instr Identifier) (m n r : ℕ) (ds : List ℕ) (here : ℕ) (inner : List (Rec Identifier)) : Type 0 where
    past : Past t (suc n) r ds here (folded x m ∷ inner) (complete ds)
    out : Body Identifier
    body : t.body ≡ out ++ ((r, x) ∷ [])
    trees : Trees m (r + 1) inner out t.rec past.rest

  -- so many of them, where they are due
  record Operands (t : Stretch) (k left r : ℕ) (ds : List ℕ) (here : ℕ) (rs : List (Rec Identifier)) : Type 0 where
    past : Past t left r (awaiting k ds) here rs (complete ds)
    trees : Trees k r rs t.body t.rec past.rest

  -- by `f` whatever folded record is read
  abbrev TreeBy : (ℕ → ℕ → Stretch) → List ℕ → Type 0
  TreeBy f ds = (x : Instr Identifier) (m n r here next : ℕ) (inner : List (Rec Identifier)) → suc n + r ≡ 4096 → here < length s
      → body_rec (within ds) s here ≡ got (folded x m) next → records n (r + 1) (seen_in (awaiting m ds)) s next ≡ ok inner → Tree (f r here) x m n r ds here inner

  module _ (f : ℕ → ℕ → Stretch) (ds : List ℕ) where
    operands-none : (left r here : ℕ) (rs : List (Rec Identifier)) → records left r (seen_in (awaiting 0 ds)) s here ≡ ok rs
        → Operands (operands_by f 0 r here) 0 left r ds here rs
    unfolding operands_by awaiting any_use any
    operands-none left r here rs e =
        record {
          past = record {
            later = left;
            rest = rs;
            goes_on = e;
            sum = refl;
            whole = refl;
            fields = λ seen. refl;
            passes = λ used named ends.
                ap (λ z. pass left r (seen_in (complete ds)) z named ends s here) (or_none used)
                ∙ ap (λ z. pass left r (seen_in (complete ds)) (used || false) z ends s here) (or_none named);
          };
          trees = Folded.none;
        }

    -- one, and the others after it
    operands-more : (k n r here : ℕ) (rs inner : List (Rec Identifier)) (x : Instr Identifier) (m : ℕ) → rs ≡ folded x m ∷ inner
        → (t : Tree (f r here) x m n r (suc k ∷ ds) here inner)
        → Operands (operands_by f k (f r here).rec (f r here).at) k t.past.later (f r here).rec ds (f r here).at t.past.rest
        → Operands (operands_by f (suc k) r here) (suc k) (suc n) r ds here rs
    unfolding operands_by awaiting
    operands-more k n r here rs inner x m i t u =
        let a = t.past in
        let b = u.past in
        let w = a.whole in
        let v = b.whole in
        let rest = operands_by f k (f r here).rec (f r here).at in
        let y : (f r here).body ++ rest.body ≡ t.out ++ ((r, x) ∷ rest.body) = rw t.body (append_assoc t.out ((r, x) ∷ []) rest.body) in
        record {
          past = record {
            later = b.later;
            rest = b.rest;
            goes_on = b.goes_on;
            sum = b.sum ∙ a.sum;
            whole = rw (w, v);
            fields = λ seen. rw i (a.fields seen ∙ b.fields seen);
            passes = λ used named ends.
                a.passes used named ends
                ∙ ap (λ z. pass a.later (f r here).rec (seen_in z) (used || any_use (f r here).body) (named || any_names (f r here).body) ends s (f r here).at) (complete-one k ds)
                ∙ b.passes (used || any_use (f r here).body) (named || any_names (f r here).body) ends
                ∙ rw (
                  or_more used (any_use (f r here).body) (any_use rest.body),
                  or_more named (any_names (f r here).body) (any_names rest.body),
                  ← uses-append (f r here).body rest.body,
                  ← names-append (f r here).body rest.body,
                );
          };
          trees = rw (i, y) (Folded.more t.trees u.trees);
        }

    operands-past : ((k : ℕ) → TreeBy f (suc k ∷ ds)) → (k left r here : ℕ) (rs : List (Rec Identifier)) → left + r ≡ 4096
        → records left r (seen_in (awaiting k ds)) s here ≡ ok rs → Operands (operands_by f k r here) k left r ds here rs
    unfolding awaiting one_record seen_after body_after items_after started_after folded_after
    operands-past h zero left r here rs q e = operands-none left r here rs e
    operands-past h (suc k) left r here rs q e = go (dec_le (length s) here) left q e (λ left r here rs. operands-past h k left r here rs)
      where
        Again : Type 0
        Again = (left r here : ℕ) (rs : List (Rec Identifier)) → left + r ≡ 4096 → records left r (seen_in (awaiting k ds)) s here ≡ ok rs → Operands (operands_by f k r here) k left r ds here rs

        on : (n : ℕ) → suc n + r ≡ 4096 → here < length s → Again → (x : Rec Identifier) (next : ℕ) (inner : List (Rec Identifier)) → body_rec (within (suc k ∷ ds)) s here ≡ got x next
            → rs ≡ x ∷ inner → records n (r + 1) (seen_after (seen_in (suc k ∷ ds)) x) s next ≡ ok inner → Operands (operands_by f (suc k) r here) (suc k) (suc n) r ds here rs
        on n q l ih (field y) next inner e i g = absurd (no_field (within (suc k ∷ ds)) s here y next e)
        on n q l ih (instr y) next inner e i g = let d = instr_not_due (within (suc k ∷ ds)) s here y next e in let z : ◌≡◌ {A = ℕ} 0 1 = cc in absurd (omega arith)
        on n q l ih body_end next inner e i g = let d = end_not_due (within (suc k ∷ ds)) s here next e in let z : ◌≡◌ {A = ℕ} 0 1 = cc in absurd (omega arith)
        on n q l ih (folded x m) next inner e i g =
            let t = h k x m n r here next inner q l e g in
            let a = t.past in
            operands-more k n r here rs inner x m i t
            (ih a.later (f r here).rec (f r here).at a.rest (a.sum ∙ q)
            (ap (λ z. records a.later (f r here).rec (seen_in z) s (f r here).at) (sym (complete-one k ds)) ∙ a.goes_on))

        go : Dec (length s ≤ here) → (left : ℕ) → left + r ≡ 4096 → records left r (seen_in (suc k ∷ ds)) s here ≡ ok rs → Again → Operands (operands_by f (suc k) r here) (suc k) left r ds here rs
        go (yes l) left q e ih = absurd (not_in_body r (seen_in (suc k ∷ ds)) s here rs left (within (suc k ∷ ds)) l e refl)
        go (no l) zero q e ih = let z = some_left r (seen_in (suc k ∷ ds)) s here rs zero (omega arith) e in absurd (omega arith)
        go (no l) (suc n) q e ih =
            let g : here < length s = omega arith in
            let v = accepted-next n r (seen_in (suc k ∷ ds)) s here rs g e in
            on n q g ih v.rec v.next v.rest v.reads v.is v.goes_on

  -- the operator after its operands
  tree_of : (u : Stretch) (x : Instr Identifier) (m n r : ℕ) (ds : List ℕ) (here next : ℕ) (inner : List (Rec Identifier)) → here < length s
      → body_rec (within ds) s here ≡ got (folded x m) next → Operands u m n (r + 1) ds next inner → Tree (operator_last r x u) x m n r ds here inner
  unfolding deinline_from one_record seen_after body_after items_after started_after folded_after any_use any
  tree_of u x m n r ds here next inner h e o =
      let a = o.past in
      let w : suc n - 1 ≡ n = omega arith in
      record {
        past = record {
          later = a.later;
          rest = a.rest;
          goes_on = a.goes_on;
          sum = a.sum ∙ omega arith;
          whole = a.whole;
          fields = λ seen. a.fields seen;
          passes = λ used named ends.
              pass-got r (seen_in ds) used named ends s here (suc n) (folded x m) next h (omega arith) e
              ∙ ap (λ z. pass z (r + 1) (seen_in (awaiting m ds)) (used || may_use x) (named || names_data x) (ends ++ []) s next) w
              ∙ ap (λ z. pass n (r + 1) (seen_in (awaiting m ds)) (used || may_use x) (named || names_data x) z s next) (append-nil ends)
              ∙ a.passes (used || may_use x) (named || names_data x) ends
              ∙ rw (
                or_last used (may_use x) (any_use u.body),
                or_last named (names_data x) (any_names u.body),
                uses-append u.body ((r, x) ∷ []),
                names-append u.body ((r, x) ∷ []),
              );
        };
        out = u.body;
        body = refl;
        trees = o.trees;
      }

  tree_past : (left : ℕ) (ds : List ℕ) → length ds + left ≡ 32 → TreeBy (tree_at left s) ds
  tree_past zero ds l x m n r here next inner q h e g = let z = folded-fold (within ds) s here x m next e in absurd (omega (arith, z.0))
  tree_past (suc left) ds l x m n r here next inner q h e g =
      let b = stands (length blocks) s here next (folded x m) (reads-deep (within ds) s next here (folded x m) e) in
      let c = b.1 in
      let i : tree_at (suc left) s r here ≡ operator_last r x (operands_by (tree_at left s) m (r + 1) next) = tree_is left s r here (omega arith) ∙ rw c in
      subst (λ t. Tree t x m n r ds here inner) (sym i)
      (tree_of (operands_by (tree_at left s) m (r + 1) next) x m n r ds here next inner h e
      (operands-past (tree_at left s) ds (λ k. tree_past left (suc k ∷ ds) (omega arith)) m n (r + 1) next inner (omega arith) g))

-- ## Bodies

module _ (s : Bytes) (items : List Space) (started : Bool) where
  abbrev pub outside : Read.Seen
  outside = record { items = items; body = none; started = started }

  -- what follows a body that the walk makes so: the records outside it
  pub record After (t : Stretch) (left r : ℕ) (seen : Read.Seen) (here : ℕ) (rs : List (Rec Identifier)) : Type 0 where
    pub later : ℕ
    pub rest : List (Rec Identifier)
    pub goes_on : records later t.rec outside s t.at ≡ ok rest
    pub sum : later + t.rec ≡ left + r
    pub fewer : later < left
    pub whole : t.whole ≡ true
    pub body : t.body ≡ body_of r rs
    pub fields : (seen : List Space) → deinline_from r seen rs ≡ deinline_from t.rec seen rest
    pub passes : (used named : Bool) (ends : List ℕ)
        → pass left r seen used named ends s here
        ≡ pass later t.rec outside false (named || any_names t.body) (ends ++ (t.at ∷ end_word t.rec (used || any_use t.body) ∷ [])) s t.at

  module _ (blocks : Blocks) (n r here next : ℕ) (rs rest : List (Rec Identifier)) (h : here < length s) where
    abbrev seen : Read.Seen
    seen = seen_in s items started blocks []

    one_less : suc n - 1 ≡ n
    one_less = omega arith

    -- an instruction first
    after-instr : (x : Instr Identifier) (u : Stretch) → body_rec (within s items started blocks []) s here ≡ got (instr x) next → rs ≡ instr x ∷ rest
        → After u n (r + 1) (seen_in s items started (open_after x blocks) []) next rest → After (before r x u) (suc n) r seen here rs
    unfolding body_of flatten deinline_from one_record seen_after body_after items_after started_after inside_after any_use any
    after-instr x u e i v =
        record {
          later = v.later;
          rest = v.rest;
          goes_on = v.goes_on;
          sum = v.sum ∙ omega arith;
          fewer = omega (arith, v.fewer);
          whole = v.whole;
          body = rw i (ap (λ z. (r, x) ∷ z) v.body);
          fields = λ seen. rw i (v.fields seen);
          passes = λ used named ends.
              pass-got r seen used named ends s here (suc n) (instr x) next h (omega arith) e
              ∙ ap (λ z. pass z (r + 1) (seen_in s items started (open_after x blocks) []) (used || may_use x) (named || names_data x) (ends ++ []) s next) one_less
              ∙ ap (λ z. pass n (r + 1) (seen_in s items started (open_after x blocks) []) (used || may_use x) (named || names_data x) z s next) (append-nil ends)
              ∙ v.passes (used || may_use x) (named || names_data x) ends
              ∙ rw (or_more used (may_use x) (any_use u.body), or_more named (names_data x) (any_names u.body));
        }

    -- a folded record with its operands first
    after_tree : (x : Instr Identifier) (m : ℕ) (t u : Stretch) → rs ≡ folded x m ∷ rest → r < t.rec
        → (v : Tree s items started blocks t x m n r [] here rest)
        → After u v.past.later t.rec seen t.at v.past.rest
        → After (joined t u) (suc n) r seen here rs
    unfolding body_of follow still complete
    after_tree x m t u i l v w =
        let a = v.past in
        let f : flatten r [] (folded x m ∷ rest) ≡ v.out ++ ((r, x) ∷ flatten t.rec [] a.rest) = flat_one r x v.trees [] in
        let b : t.body ++ u.body ≡ flatten r [] (folded x m ∷ rest) =
        ap (λ z. z ++ u.body) v.body ∙ append_assoc v.out ((r, x) ∷ []) u.body ∙ ap (λ z. v.out ++ ((r, x) ∷ z)) w.body ∙ sym f in
        let c = a.whole in
        let d = w.whole in
        record {
          later = w.later;
          rest = w.rest;
          goes_on = w.goes_on;
          sum = w.sum ∙ a.sum;
          fewer = omega (arith, w.fewer, a.sum);
          whole = rw (c, d);
          body = rw i b;
          fields = λ seen. rw i (a.fields seen ∙ w.fields seen);
          passes = λ used named ends.
              a.passes used named ends
              ∙ w.passes (used || any_use t.body) (named || any_names t.body) ends
              ∙ rw (
                or_more used (any_use t.body) (any_use u.body),
                or_more named (any_names t.body) (any_names u.body),
                ← uses-append t.body u.body,
                ← names-append t.body u.body,
              );
        }

    -- its end
    after_end : body_rec (within s items started blocks []) s here ≡ got body_end next → rs ≡ body_end ∷ rest
        → records n (r + 1) outside s next ≡ ok rest → After (nothing (r + 1) next) (suc n) r seen here rs
    unfolding body_of flatten deinline_from one_record seen_after body_after items_after started_after any_use any
    after_end e i g =
        record {
          later = n;
          rest = rest;
          goes_on = g;
          sum = omega arith;
          fewer = omega arith;
          whole = refl;
          body = rw i;
          fields = λ seen. rw i;
          passes = λ used named ends.
              pass-got r seen used named ends s here (suc n) body_end next h (omega arith) e
              ∙ rw (one_less, ← or_none used, ← or_none named);
        }

  -- a body, whatever blocks are open in it
  pub body-after : (turns : ℕ) (blocks : Blocks) (left r here : ℕ) (rs : List (Rec Identifier)) → left ≤ turns → left + r ≡ 4096
      → records left r (seen_in s items started blocks []) s here ≡ ok rs
      → After (body_from (length blocks) r s here) left r (seen_in s items started blocks []) here rs
  unfolding one_record seen_after body_after items_after started_after inside_after folded_after complete
  body-after zero blocks left r here rs p q e = go (dec_le (length s) here)
    where
      go : Dec (length s ≤ here) → After (body_from (length blocks) r s here) left r (seen_in s items started blocks []) here rs
      go (yes l) = absurd (not_in_body r (seen_in s items started blocks []) s here rs left (within s items started blocks []) l e refl)
      go (no l) = let z = some_left r (seen_in s items started blocks []) s here rs left (omega arith) e in absurd (omega arith)
  body-after (suc turns) blocks left r here rs p q e = go (dec_le (length s) here) left p q e (λ blocks left r here rs. body-after turns blocks left r here rs)
    where
      Again : Type 0
      Again = (blocks : Blocks) (left r here : ℕ) (rs : List (Rec Identifier)) → left ≤ turns → left + r ≡ 4096 → records left r (seen_in s items started blocks []) s here ≡ ok rs
          → After (body_from (length blocks) r s here) left r (seen_in s items started blocks []) here rs

      on : (n : ℕ) → n ≤ turns → suc n + r ≡ 4096 → here < length s → Again → (x : Rec Identifier) (next : ℕ) (rest : List (Rec Identifier))
          → body_rec (within s items started blocks []) s here ≡ got x next → rs ≡ x ∷ rest → records n (r + 1) (seen_after (seen_in s items started blocks []) x) s next ≡ ok rest
          → After (body_from (length blocks) r s here) (suc n) r (seen_in s items started blocks []) here rs
      on n p q h ih (field f) next rest e i g = absurd (no_field (within s items started blocks []) s here f next e)
      on n p q h ih (instr x) next rest e i g =
          let d = stands (length blocks) s here next (instr x) (reads-deep (within s items started blocks []) s next here (instr x) e) in
          let t : body_from (length blocks) r s here ≡ before r x (body_from (length (open_after x blocks)) (r + 1) s next) =
          body-turn s (length blocks) r here (omega arith) ∙ rw (d, after-length x blocks) in
          subst (λ z. After z (suc n) r (seen_in s items started blocks []) here rs) (sym t)
          (after-instr blocks n r here next rs rest h x (body_from (length (open_after x blocks)) (r + 1) s next) e i (ih (open_after x blocks) n (r + 1) next rest p (omega arith) g))
      on n p q h ih (folded x m) next rest e i g =
          let d = stands (length blocks) s here next (folded x m) (reads-deep (within s items started blocks []) s next here (folded x m) e) in
          let c = d.0 in
          let a = tree_at 32 s r here in
          let l = tree_later 31 s r here (omega arith) in
          let t : body_from (length blocks) r s here ≡ joined a (body_from (length blocks) a.rec s a.at) = body-turn s (length blocks) r here (omega arith) ∙ rw c in
          let v = tree_past s items started blocks 32 [] refl x m n r here next rest q h e g in
          let w = v.past in
          subst (λ z. After z (suc n) r (seen_in s items started blocks []) here rs) (sym t)
          (after_tree blocks n r here next rs rest h x m a (body_from (length blocks) a.rec s a.at) i l.later v
          (ih blocks w.later a.rec a.at w.rest (omega (arith, w.sum, l.later)) (w.sum ∙ q) w.goes_on))
      on n p q h ih body_end next rest e i g =
          let d = stands (length blocks) s here next body_end (reads-deep (within s items started blocks []) s next here body_end e) in
          let t : body_from (length blocks) r s here ≡ nothing (r + 1) next = body-turn s (length blocks) r here (omega arith) ∙ rw d in
          subst (λ z. After z (suc n) r (seen_in s items started blocks []) here rs) (sym t) (after_end blocks n r here next rs rest h e i g)

      go : Dec (length s ≤ here) → (left : ℕ) → left ≤ suc turns → left + r ≡ 4096 → records left r (seen_in s items started blocks []) s here ≡ ok rs → Again
          → After (body_from (length blocks) r s here) left r (seen_in s items started blocks []) here rs
      go (yes l) left p q e ih = absurd (not_in_body r (seen_in s items started blocks []) s here rs left (within s items started blocks []) l e refl)
      go (no l) zero p q e ih = let z = some_left r (seen_in s items started blocks []) s here rs zero (omega arith) e in absurd (omega arith)
      go (no l) (suc n) p q e ih =
          let h : here < length s = omega arith in
          let v = accepted-next n r (seen_in s items started blocks []) s here rs h e in
          on n (omega arith) q h ih v.rec v.next v.rest v.reads v.is v.goes_on
