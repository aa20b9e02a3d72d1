-- The names of one function: its parameters and locals, and its entry.
use Rattle.std.specs.Prelude.{Ok, Err}
use Rattle.syntax.specs.Refusals.{Resolved}
use Prim.Native.Nat.{ℕ, zero, suc, ◌+◌, ◌*◌, ◌^◌, ◌≤◌, ◌<◌}
use mathlib.Core.Path.{◌≡◌, refl, sym, ◌∙◌, ap, subst}
use mathlib.Core.Bool.{Bool, true, false}
use mathlib.Core.List.{List, [], ◌∷◌, ◌++◌, append-nil}
use mathlib.Core.Option.{none}
use lib.ListN.{length, replicate, length-map}
use native.Mathlib.Omega.{arith}
use Rattle.definition.specs.Basic.{ok, concat_map, at}
use Rattle.definition.specs.Syntax as Syntax
use Rattle.definition.specs.Syntax.{Bytes, Identifier, number}
use Rattle.definition.specs.Token as Token
use Rattle.definition.specs.Types.{is_inline}
use Rattle.definition.specs.Names.{Namespace, type_no, param_count, param_names, locals_of}
use Rattle.definition.specs.Binary.{u, vec}
use Rattle.syntax.specs.Refusals.{refused_by}
use Rattle.syntax.specs.declared.Refusal.{Refusal}
use Rattle.emit.specs.Put.{Put}
use Rattle.emit.proofs.Laws.{put-none, put_then, put_is}
use Rattle.syntax.specs.TypeUses.{list_of, use_of, on_step, elements}
use Rattle.syntax.specs.declared.List as Code
use Rattle.syntax.specs.declared.TypeUse.{TypeUse}
use Rattle.definition.specs.Reader.{Step, got, fault}
use Rattle.type_table.specs.Table.{types_in}
use Rattle.syntax.specs.Resolved.{type_no_of}
use Rattle.syntax.specs.declared.TypeNo.{TypeNo}
use Rattle.scope.specs.Scope.{scope_in}
use Rattle.scope.specs.Answers.{type_answer}
use Rattle.frames.specs.Locals.{ids_at, ids_of}
use Rattle.definition.specs.NameSection.{NameMap, named_from, locals_by, unless_empty, local_names_from, name_assoc, indirect_name_assoc}
use Rattle.name_maps.specs.Maps.{first, Adds, Names, LocalNames, Few, own_locals}
use Rattle.name_maps.specs.declared.map.Reached.{Reached}
use Rattle.name_maps.proofs.Maps.{adds_none, named-few, names_then}

-- ## The names of one function

pub few_zero : (x : Reached) (here : ℕ) → x ≡ first here 0 → Few 4294967296 x
few_zero x here e = rw e (record { low = omega arith; fewer = omega arith })

pub few-first : (x : Reached) (here n : ℕ) → x ≡ first here n → n < 2 ^ 32 → Few 4294967296 x
few-first x here n e h = rw e (record { low = omega arith; fewer = omega arith })

-- no more than are counted
elements-few : (s : Bytes) (here n : ℕ) → length (elements Token.param s here n) ≤ n
unfolding elements
elements-few s here zero = omega arith
elements-few s here (suc n) = go (Token.param s here) (λ next. elements-few s next n)
  where
    go : (q : Step (Syntax.Local Identifier)) → ((next : ℕ) → length (elements Token.param s next n) ≤ n) → length (on_step q (λ x next. x ∷ elements Token.param s next n) []) ≤ suc n
    go (got x next) h = omega (arith, h next)
    go (fault k) h = omega arith

ids_few : (s : Bytes) (here n : ℕ) → length (ids_at s here n) ≤ n
unfolding ids_at
ids_few s here n = omega (arith, length-map (elements Token.param s here n) (λ p. p.id), elements-few s here n)

pub few_list : (s : Bytes) (l : Code.List) (x y : Reached) (here : ℕ) (old mid : Bytes) → y ≡ first here 0 → l.count < 2 ^ 32 → Names (ids_of s l) y old x mid → Few 4294967296 x
few_list s l x y here old mid e h v =
    let a : x.number ≡ y.number + length (ids_of s l) = v.number in
    let b : x.count ≡ y.count + length (named_from y.number (ids_of s l)) = v.count in
    let d : y.number ≡ 0 = ap (λ (z : Reached). z.number) e in
    let f : y.count ≡ 0 = ap (λ (z : Reached). z.count) e in
    record { low = omega (arith, ids_few s l.at l.count); fewer = omega (arith, named-few y.number (ids_of s l)) }

-- nameless places only move the numbers
nameless_on : (n k : ℕ) (is : Namespace Identifier) → named_from n (replicate k none ++ is) ≡ named_from (n + k) is
unfolding named_from
nameless_on n zero is = let e : n + 0 ≡ n = omega arith in rw e refl
nameless_on n (suc k) is = let e : n + suc k ≡ n + 1 + k = omega arith in rw e (nameless_on (n + 1) k is)

nameless-long : (k : ℕ) (is : Namespace Identifier) → length (replicate k none ++ is) ≡ k + length is
nameless-long zero is = omega arith
nameless-long (suc k) is = omega (arith, nameless-long k is)

pub inline_put : (s : Bytes) (ps ls : Code.List) (here : ℕ) (old : Bytes) (y x r : Reached) (mid new : Bytes) → y ≡ first here 0 → Names (ids_of s ps) y old x mid → Names (ids_of s ls) x mid r new
    → Names (ids_of s ps ++ ids_of s ls) (first here 0) old r new
inline_put s ps ls here old y x r mid new e v q =
    let v' : Names (ids_of s ps) (first here 0) old x mid = subst (λ (z : Reached). Names (ids_of s ps) z old x mid) e v in
    names_then (ids_of s ps) (ids_of s ls) v' q

pub nameless-put : (s : Bytes) (k : ℕ) (ls : Code.List) (here : ℕ) (old : Bytes) (y r : Reached) (new : Bytes) → y ≡ first here k → Names (ids_of s ls) y old r new
    → Names (replicate k none ++ ids_of s ls) (first here 0) old r new
nameless-put s k ls here old y r new e v =
    let v' : Names (ids_of s ls) (first here k) old r new = subst (λ (z : Reached). Names (ids_of s ls) z old r new) e v in
    let z : 0 + k ≡ k = omega arith in
    rw (nameless_on 0 k (ids_of s ls), nameless-long k (ids_of s ls), z) (record { put = v'.put; number = omega (arith, v'.number); count = v'.count })

module _ (s w : List ℕ) (n : TypeNo) (t : TypeUse) (ls : Code.List) (x : Reached) (old : Bytes) (b : Bool) (told : b ≡ is_inline (use_of s t)) where
  pub typed_inline : (r : Reached) (new : Bytes) → b ≡ true → Names (ids_of s t.params ++ ids_of s ls) x old r new
      → Names (locals_of (types_in s w) (type_no_of n) (use_of s t) (list_of Token.param s ls)) x old r new
  unfolding locals_of param_names ids_at
  typed_inline r new h v = let d : is_inline (use_of s t) ≡ true = sym told ∙ h in rw d v

  pub typed-nameless : (k : ℕ) (r : Reached) (new : Bytes) → b ≡ false → k ≡ param_count (at (types_in s w) n.0) → Names (replicate k none ++ ids_of s ls) x old r new
      → Names (locals_of (types_in s w) (type_no_of n) (use_of s t) (list_of Token.param s ls)) x old r new
  unfolding locals_of param_names ids_at
  typed-nameless k r new h m v = let d : is_inline (use_of s t) ≡ false = sym told ∙ h in rw (d, ← m) v

module _ (s w : List ℕ) (rec : ℕ) (t : TypeUse) (ls : Code.List) (here : ℕ) (old : Bytes) (q : Resolved TypeNo) (told : type_no (scope_in s w) rec (use_of s t) ≡ type_answer q) where
  pub own-typed : (n : TypeNo) (r : Reached) (new : Bytes) → q ≡ Ok n → Names (locals_of (types_in s w) (type_no_of n) (use_of s t) (list_of Token.param s ls)) (first here 0) old r new
      → Names (own_locals (scope_in s w) s rec t ls) (first here 0) old r new
  unfolding own_locals scope_in
  own-typed n r new e v =
      let d : locals_by (types_in s w) (use_of s t) (list_of Token.param s ls) (ok (type_no_of n)) ≡ own_locals (scope_in s w) s rec t ls = ap (locals_by (types_in s w) (use_of s t) (list_of Token.param s ls)) (sym (told ∙ ap type_answer e)) in
      subst (λ is. Names is (first here 0) old r new) d v

  pub own-refused : (j : Refusal) (r : Reached) → q ≡ Err j → r ≡ first here 0 → length old * 1 < 2 ^ 63 → Names (own_locals (scope_in s w) s rec t ls) (first here 0) old r old
  unfolding own_locals scope_in named_from
  own-refused j r e d g =
      let c : locals_by (types_in s w) (use_of s t) (list_of Token.param s ls) (refused_by j) ≡ own_locals (scope_in s w) s rec t ls = ap (locals_by (types_in s w) (use_of s t) (list_of Token.param s ls)) (sym (told ∙ ap type_answer e)) in
      subst (λ is. Names is (first here 0) old r old) c (rw d (adds_none name_assoc (first here 0) old g))

-- ## The entry of one function

module _ (l : Namespace Identifier) (x : Reached) (old : Bytes) (count : ℕ) (is : count ≡ length (named_from 0 l)) where
  pub entry-none : count ≡ 0 → length old * 1 < 2 ^ 63 → LocalNames (l ∷ []) x old (record { at = x.at; number = x.number + 1; count = x.count }) old
  unfolding local_names_from concat_map
  entry-none z g = go (named_from 0 l) (sym is ∙ z)
    where
      go : (m : NameMap) → length m ≡ 0 → Adds indirect_name_assoc (unless_empty x.number m ++ []) 1 x old (record { at = x.at; number = x.number + 1; count = x.count }) old
      go [] e = record { put = put-none x.at (omega arith); number = refl; count = omega arith }
      go (a ∷ m) e = absurd (omega arith)

  pub entry-some : (a b : ℕ) (y : Reached) (mid end new : Bytes) → (count ≡ 0 → ⊥) → Put old x.at (u x.number) a mid → Put mid a (u count) b end → Names l (first b 0) end y new
      → LocalNames (l ∷ []) x old (record { at = y.at; number = x.number + 1; count = x.count + 1 }) new
  unfolding local_names_from concat_map indirect_name_assoc vec
  entry-some a b y mid end new z p q v = go (named_from 0 l) is v.put
    where
      go : (m : NameMap) → count ≡ length m → Put end b (concat_map name_assoc m) y.at new
          → Adds indirect_name_assoc (unless_empty x.number m ++ []) 1 x old (record { at = y.at; number = x.number + 1; count = x.count + 1 }) new
      go [] e c = absurd (z e)
      go (k ∷ m) e c =
          let q' : Put mid a (u (length (k ∷ m))) b end = rw (← e) q in
          record { put = put_is (put_then p (put_then q' c)) (sym (append-nil _)); number = refl; count = refl }
