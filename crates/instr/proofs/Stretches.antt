-- A body that was read before, turn by turn; how far the records of a stretch reach; and what is known where all of it can be read.
use Rattle.std.specs.Prelude.{if◌then◌else◌}
use mathlib.Core.Path.{◌≡◌, refl, sym, ◌∙◌, ap}
use Prim.Native.Nat.{ℕ, zero, suc, ◌+◌, ◌-◌, ◌≤◌, ◌<◌}
use mathlib.Core.Bool.{Bool, true, false, ◌&&◌, false≢true}
use mathlib.Core.List.{append-nil}
use lib.Dec.{leb}
use borrow.Author.Tests.{le-leb, lt-leb, leb-false}
use native.Mathlib.Omega.{arith}
use Rattle.definition.specs.Syntax as Syntax
use Rattle.definition.specs.Syntax.{Bytes, Identifier, Rec, field, instr, folded, body_end}
use Rattle.definition.specs.Reader.{Step, got, fault}
use Rattle.laws.specs.Depths.{depth_after}
use Rattle.token.specs.Known.{Gets}
use Rattle.instr.specs.Known.{IsRead}
use Rattle.instr.specs.Bodies.{Head, one, folding, ended, unread, head_at, on_head, Stretch, nothing, stopped, joined, before, operator_last, on_fold, fold_here, operands_by, tree_at, body_turns, body_from}

-- ## Records of a folded record

-- from `low` on, and within what there may be
pub record Reaches (low : ℕ) (t : Stretch) : Type 0 where
  pub least : low ≤ t.rec
  pub most : low ≤ 4096 → t.rec ≤ 4096

reaches_here : (r here : ℕ) (t : Stretch) → t.rec ≡ r → Reaches r t
reaches_here r here t e = record { least = omega arith; most = λ h. omega arith }

pub operands_reach : (f : ℕ → ℕ → Stretch) → ((r here : ℕ) → Reaches r (f r here)) → (n r here : ℕ) → Reaches r (operands_by f n r here)
unfolding operands_by
operands_reach f h zero r here = reaches_here r here _ refl
operands_reach f h (suc n) r here =
    let a = h r here in
    let b = operands_reach f h n (f r here).rec (f r here).at in
    record { least = omega (arith, a.least, b.least); most = λ g. b.most (a.most g) }

-- after a folded record the next is a later one
pub record Later (r : ℕ) (t : Stretch) : Type 0 where
  pub later : r < t.rec
  pub most : t.rec ≤ 4096

fold-later : (f : ℕ → ℕ → Stretch) → ((r here : ℕ) → Reaches r (f r here)) → (r here : ℕ) (m : Step (Rec Identifier)) → r < 4096
    → Later r (on_fold m (λ x n next. operator_last r x (operands_by f n (r + 1) next)) (stopped (r + 1) here))
fold-later f h r here (got (field x) next) l = record { later = omega arith; most = omega arith }
fold-later f h r here (got (instr x) next) l = record { later = omega arith; most = omega arith }
fold-later f h r here (got (folded x n) next) l =
    let a = operands_reach f h n (r + 1) next in
    record { later = omega (arith, a.least); most = a.most (omega arith) }
fold-later f h r here (got body_end next) l = record { later = omega arith; most = omega arith }
fold-later f h r here (fault n) l = record { later = omega arith; most = omega arith }

pub tree_reach : (left : ℕ) (s : Bytes) (r here : ℕ) → Reaches r (tree_at left s r here)
unfolding tree_at
tree_reach zero s r here = reaches_here r here _ refl
tree_reach (suc left) s r here = go (leb 4096 r) refl (fold-later (tree_at left s) (tree_reach left s) r here (fold_here s here))
  where
    tree : Stretch
    tree = on_fold (fold_here s here) (λ x n next. operator_last r x (operands_by (tree_at left s) n (r + 1) next)) (stopped (r + 1) here)

    go : (t : Bool) → leb 4096 r ≡ t → (r < 4096 → Later r tree) → Reaches r (if t then stopped r here else tree)
    go true e h = reaches_here r here _ refl
    go false e h = let l = h (leb-false _ _ e) in record { least = omega (arith, l.later); most = λ _. l.most }

pub tree_later : (left : ℕ) (s : Bytes) (r here : ℕ) → r < 4096 → Later r (tree_at (suc left) s r here)
unfolding tree_at
tree_later left s r here h = rw (lt-leb _ _ h) (fold-later (tree_at left s) (tree_reach left s) r here (fold_here s here) h)

-- what a folded record holds, where there may be one more
pub tree_is : (left : ℕ) (s : Bytes) (r here : ℕ) → r < 4096
    → tree_at (suc left) s r here ≡ on_fold (fold_here s here) (λ x n next. operator_last r x (operands_by (tree_at left s) n (r + 1) next)) (stopped (r + 1) here)
unfolding tree_at
tree_is left s r here h = rw (lt-leb _ _ h)

-- ## Turns of a body

-- what is made of what stands at a place
abbrev pub onward : ℕ → ℕ → Bytes → ℕ → (ℕ → ℕ → ℕ → Stretch) → Stretch
onward k r s here more =
    on_head (head_at k s here)
    (λ x next. before r x (more (depth_after x k) (r + 1) next))
    (joined (tree_at 32 s r here) (more k (tree_at 32 s r here).rec (tree_at 32 s r here).at))
    (λ next. nothing (r + 1) next)
    (stopped r here)

module _ (s : Bytes) where
  -- more turns than records that may come change nothing
  pub enough : (turns fewer k r here : ℕ) → 4096 - r ≤ turns → 4096 - r ≤ fewer → body_turns turns k r s here ≡ body_turns fewer k r s here
  unfolding body_turns
  enough zero zero k r here h g = refl
  enough zero (suc b) k r here h g = let l : 4096 ≤ r = omega arith in rw (le-leb _ _ l)
  enough (suc a) zero k r here h g = let l : 4096 ≤ r = omega arith in rw (le-leb _ _ l)
  enough (suc a) (suc b) k r here h g = go (leb 4096 r) refl (head_at k s here) (λ j q next. enough a b j q next)
    where
      go : (t : Bool) → leb 4096 r ≡ t → (x : Head)
          → ((j q next : ℕ) → 4096 - q ≤ a → 4096 - q ≤ b → body_turns a j q s next ≡ body_turns b j q s next)
          → (if t then stopped r here
          else on_head x (λ x next. before r x (body_turns a (depth_after x k) (r + 1) s next))
          (joined (tree_at 32 s r here) (body_turns a k (tree_at 32 s r here).rec s (tree_at 32 s r here).at)) (λ next. nothing (r + 1) next) (stopped r here))
          ≡ (if t then stopped r here
          else on_head x (λ x next. before r x (body_turns b (depth_after x k) (r + 1) s next))
          (joined (tree_at 32 s r here) (body_turns b k (tree_at 32 s r here).rec s (tree_at 32 s r here).at)) (λ next. nothing (r + 1) next) (stopped r here))
      go true e x f = refl
      go false e (one x next) f = ap (before r x) (f (depth_after x k) (r + 1) next (omega arith) (omega arith))
      go false e folding f =
          let l = tree_later 31 s r here (leb-false _ _ e) in
          ap (joined (tree_at 32 s r here)) (f k (tree_at 32 s r here).rec (tree_at 32 s r here).at (omega (arith, l.later)) (omega (arith, l.later)))
      go false e (ended next) f = refl
      go false e unread f = refl

  -- one turn
  pub body-turn : (k r here : ℕ) → r < 4096 → body_from k r s here ≡ onward k r s here (λ j q next. body_from j q s next)
  unfolding body_from body_turns
  body-turn k r here h =
      let m : 4096 - r ≡ suc (4096 - (r + 1)) = omega arith in
      rw (m, lt-leb _ _ h) (go (head_at k s here) (tree_later 31 s r here h))
    where
      left : ℕ
      left = 4096 - (r + 1)

      go : (x : Head) → Later r (tree_at 32 s r here)
          → on_head x (λ x next. before r x (body_turns left (depth_after x k) (r + 1) s next))
          (joined (tree_at 32 s r here) (body_turns left k (tree_at 32 s r here).rec s (tree_at 32 s r here).at)) (λ next. nothing (r + 1) next) (stopped r here)
          ≡ on_head x (λ x next. before r x (body_turns (4096 - (r + 1)) (depth_after x k) (r + 1) s next))
          (joined (tree_at 32 s r here) (body_turns (4096 - (tree_at 32 s r here).rec) k (tree_at 32 s r here).rec s (tree_at 32 s r here).at)) (λ next. nothing (r + 1) next) (stopped r here)
      go (one x next) l = refl
      go folding l =
          ap (joined (tree_at 32 s r here))
          (enough left (4096 - (tree_at 32 s r here).rec) k (tree_at 32 s r here).rec (tree_at 32 s r here).at (omega (arith, l.later)) (omega arith))
      go (ended next) l = refl
      go unread l = refl

  -- no record may come
  pub body_full : (k r here : ℕ) → 4096 ≤ r → body_from k r s here ≡ stopped r here
  unfolding body_from body_turns
  body_full k r here h = let m : 4096 - r ≡ 0 = omega arith in rw m

  -- the record after a body is no earlier than its first, and no later than the records may be
  turns_reach : (turns k r here : ℕ) → Reaches r (body_turns turns k r s here)
  unfolding body_turns
  turns_reach zero k r here = reaches_here r here _ refl
  turns_reach (suc turns) k r here = go (leb 4096 r) refl (head_at k s here) (λ j q next. turns_reach turns j q next)
    where
      go : (t : Bool) → leb 4096 r ≡ t → (x : Head) → ((j q next : ℕ) → Reaches q (body_turns turns j q s next))
          → Reaches r (if t then stopped r here
          else on_head x (λ x next. before r x (body_turns turns (depth_after x k) (r + 1) s next))
          (joined (tree_at 32 s r here) (body_turns turns k (tree_at 32 s r here).rec s (tree_at 32 s r here).at)) (λ next. nothing (r + 1) next) (stopped r here))
      go true e x f = reaches_here r here _ refl
      go false e (one x next) f = let h = f (depth_after x k) (r + 1) next in let l : r < 4096 = leb-false _ _ e in record { least = omega (arith, h.least); most = λ g. h.most (omega arith) }
      go false e folding f =
          let l = tree_later 31 s r here (leb-false _ _ e) in
          let h = f k (tree_at 32 s r here).rec (tree_at 32 s r here).at in
          record { least = omega (arith, l.later, h.least); most = λ g. h.most l.most }
      go false e (ended next) f = let l : r < 4096 = leb-false _ _ e in record { least = omega arith; most = λ g. omega arith }
      go false e unread f = reaches_here r here _ refl

  pub body_reach : (k r here : ℕ) → Reaches r (body_from k r s here)
  unfolding body_from
  body_reach k r here = turns_reach (4096 - r) k r here

-- by what stands there
module _ (s : Bytes) (k r here : ℕ) (low : r < 4096) where
  pub body-one : (x : Syntax.Instr Identifier) (next : ℕ) → head_at k s here ≡ one x next → body_from k r s here ≡ before r x (body_from (depth_after x k) (r + 1) s next)
  body-one x next e = body-turn s k r here low ∙ rw e refl

  pub body-folded : head_at k s here ≡ folding → body_from k r s here ≡ joined (tree_at 32 s r here) (body_from k (tree_at 32 s r here).rec s (tree_at 32 s r here).at)
  body-folded e = body-turn s k r here low ∙ rw e refl

  pub body_ended : (next : ℕ) → head_at k s here ≡ ended next → body_from k r s here ≡ nothing (r + 1) next
  body_ended next e = body-turn s k r here low ∙ rw e refl

  pub body_cut : head_at k s here ≡ unread → body_from k r s here ≡ stopped r here
  body_cut e = body-turn s k r here low ∙ rw e refl

-- ## Operands

-- none is left; one, and the others
pub operands-none : (f : ℕ → ℕ → Stretch) (n r here : ℕ) → n ≤ 0 → operands_by f n r here ≡ nothing r here
unfolding operands_by
operands-none f n r here h = let m : n ≡ 0 = omega arith in rw m refl

pub operands-more : (f : ℕ → ℕ → Stretch) (n r here : ℕ) → 0 < n → operands_by f n r here ≡ joined (f r here) (operands_by f (n - 1) (f r here).rec (f r here).at)
unfolding operands_by
operands-more f zero r here h = absurd (omega arith)
operands-more f (suc n) r here h = let m : suc n - 1 ≡ n = omega arith in rw m refl

-- one alone is the list of it
pub operands-one : (f : ℕ → ℕ → Stretch) (r here : ℕ) → operands_by f 1 r here ≡ f r here
unfolding operands_by
operands-one f r here = alone (f r here)
  where
    all : (t : Bool) → (t && true) ≡ t
    all true = refl
    all false = refl

    alone : (t : Stretch) → joined t (nothing t.rec t.at) ≡ t
    alone t = rw (append-nil t.body, all t.whole) refl

-- ## Where all of it can be read

both : (a b : Bool) → (a && b) ≡ true → (a ≡ true) × (b ≡ true)
both true b e = (refl, e)
both false b e = absurd (false≢true e)

-- one stretch and then another
module _ (t u : Stretch) (h : (joined t u).whole ≡ true) where
  pub whole-first : t.whole ≡ true
  whole-first = (both t.whole u.whole h).0

  pub whole-rest : u.whole ≡ true
  whole-rest = (both t.whole u.whole h).1

-- a body
module _ (s : Bytes) (k r here : ℕ) (low : r < 4096) (h : (body_from k r s here).whole ≡ true) where
  pub whole-head : IsRead (head_at k s here)
  whole-head = record { read = λ e. false≢true (sym (ap (λ (t : Stretch). t.whole) (body_cut s k r here low e)) ∙ h) }

  -- a folded record stands there
  pub whole_tree : head_at k s here ≡ folding → (tree_at 32 s r here).whole ≡ true
  whole_tree e =
      whole-first (tree_at 32 s r here) (body_from k (tree_at 32 s r here).rec s (tree_at 32 s r here).at)
      (ap (λ (t : Stretch). t.whole) (sym (body-folded s k r here low e)) ∙ h)

-- a folded record
pub whole-folded : (left : ℕ) (s : Bytes) (r here : ℕ) → 1 ≤ left → r < 4096 → (tree_at left s r here).whole ≡ true → Gets (fold_here s here)
whole-folded zero s r here l low h = absurd (omega arith)
whole-folded (suc left) s r here l low h = go (fold_here s here) refl (ap (λ (t : Stretch). t.whole) (sym (tree_is left s r here low)) ∙ h)
  where
    go : (m : Step (Rec Identifier)) → fold_here s here ≡ m
        → (on_fold m (λ x n next. operator_last r x (operands_by (tree_at left s) n (r + 1) next)) (stopped (r + 1) here)).whole ≡ true → Gets (fold_here s here)
    go (got x next) e w = record { value = x; next = next; is = e }
    go (fault n) e w = absurd (false≢true w)
