-- What the passes find, stage by stage, and what is then left of a call: its writer.
use Rattle.std.specs.Prelude.{Ok, Err}
use Rattle.syntax.specs.Refusals.{Resolved}
use Rattle.std.specs.Prelude.{ℕ, ◌≡◌, Bool, true, false, List, [], ◌++◌, length, get_or}
use Rattle.definition.specs.Basic.{Answer, ok, ◌>>=◌, same_bytes}
use Rattle.definition.specs.Syntax.{Bytes, Identifier, Rec, FuncType, Item}
use Rattle.definition.specs.Read.{read}
use Rattle.definition.specs.Deinline.{Numbered}
use Rattle.definition.specs.Types.{uses, declared}
use Rattle.definition.specs.Names.{Scope, space, definers, register}
use Rattle.definition.specs.Binary.{module'}
use Rattle.definition.specs.NameSection.{name_section}
use Rattle.definition.specs.Assemble as Assemble
use Rattle.definition.specs.Assemble.{items_in, fitting, Maker, module_in, named_module_in, refusing, say, assemble_by}
use Rattle.syntax.specs.Refusals.{refusal_of, refused_by}
use Rattle.syntax.specs.declared.Refusal.{Refusal}
use Rattle.area.specs.Layout.{DECLARED}
use Rattle.area.specs.Lent.{Lent}
use Rattle.area.specs.Flags.{strict_in}
use Rattle.stream.specs.Pass.{reading}
use Rattle.type_table.specs.Table.{types_in, Recalled}
use Rattle.walk.specs.Walk.{Ahead, begin, fields_in}
use Rattle.survey.specs.Survey.{types_after_order}
use Rattle.scope.specs.Scope.{scope_in}
use Rattle.kept.specs.Tally.{tallies, no_tally}
use Rattle.sections.specs.Write.{Typed, Writable, Held, all_entries, module_items}
use Rattle.passes.specs.declared.Passed.{Passed}

-- ## What the passes find, from the last to the first

-- what names mean, and the items
abbrev pub Found : Type 0
Found = Scope Identifier × List Item

unfoldable pub from_names : Numbered Identifier → Scope Identifier → Answer Found
from_names fs Γ = items_in Γ fs >>= λ is. ok (Γ, is)

unfoldable pub from_types : Bool → Numbered Identifier → List FuncType → Answer Found
from_types strict fs ts = register same_bytes [] fs >>= λ xs. from_names fs (record { strict = strict; eq = same_bytes; names = λ k. space k xs; definers = λ k. definers k xs; all_types = ts })

unfoldable pub from_fields : Bool → Numbered Identifier → Answer Found
from_fields strict fs = types_after_order fs >>= λ ts. from_types strict fs ts

-- what a call makes of records, strict or not, with the names or without; and what its writer makes of what the passes find
abbrev pub makes : Bool → Bool → Maker
makes strict false = module_in strict same_bytes
makes strict true = named_module_in strict

abbrev pub writes : Bool → Numbered Identifier → Found → Bytes
writes false fs x = module' x.1
writes true fs x = module' x.1 ++ name_section x.0 fs

-- ## What each stage says, and leaves for the next

-- a walk may begin, and how many types are declared is known
pub record Walkable (s w : List ℕ) : Type 0 where
  pub lent : Lent s w
  pub ahead : Ahead s w begin
  pub declared_word : get_or w DECLARED 0 ≡ length (declared (fields_in s))

-- the records were read, for a strict call or a plain one
pub record Begun (strict : Bool) (s w : List ℕ) (n : ℕ) (w' : List ℕ) : Type 0 where
  pub recs : List (Rec Identifier)
  pub is : read s ≡ ok recs
  pub says : reading s (length w) ≡ ok n
  pub strictness : strict_in w' ≡ strict
  pub ready : Walkable s w'
  pub long : length w' ≡ length w

pub record Unread (s w : List ℕ) (q : Refusal) (w' : List ℕ) : Type 0 where
  pub says : reading s (length w) ≡ refused_by q
  pub long : length w' ≡ length w

unfoldable pub Begins : Bool → List ℕ → List ℕ → Resolved ℕ → List ℕ → Type 0
Begins strict s w (Ok n) w' = Begun strict s w n w'
Begins strict s w (Err q) w' = Unread s w q w'

-- all types and names are in the area, and each use has its number
pub record Resolvable (s w : List ℕ) : Type 0 where
  pub lent : Lent s w
  pub ahead : Ahead s w begin
  pub recalled : Recalled w (types_in s w) (uses (fields_in s))
  pub typed : Typed s w

pub record Named (s w w' : List ℕ) : Type 0 where
  pub finds : from_fields (strict_in w) (fields_in s) ≡ from_names (fields_in s) (scope_in s w')
  pub ready : Resolvable s w'
  pub long : length w' ≡ length w

pub record Unnamed (s w : List ℕ) (q : Refusal) (w' : List ℕ) : Type 0 where
  pub finds : from_fields (strict_in w) (fields_in s) ≡ refused_by q
  pub long : length w' ≡ length w

unfoldable pub Interns : List ℕ → List ℕ → Resolved (Unit {0}) → List ℕ → Type 0
Interns s w (Ok u) w' = Named s w w'
Interns s w (Err q) w' = Unnamed s w q w'

-- what a writer asks for: the items as the work area has them, their tally, and the bytes of their entries that were kept
pub record Prepared (s : List ℕ) (p : Passed) (w kept : List ℕ) : Type 0 where
  pub writable : Writable s w
  pub tally : p.tally ≡ tallies no_tally (all_entries s w)
  pub held : Held kept (all_entries s w)

-- the work area has what was found
pub record Holds (a : Answer Found) (count : ℕ) (s : List ℕ) (p : Passed) (w kept : List ℕ) : Type 0 where
  pub found : a ≡ ok (scope_in s w, module_items s w)
  pub records : p.count ≡ count
  pub ready : Prepared s p w kept

abbrev pub PassesBy : Resolved Passed → Answer Found → ℕ → List ℕ → List ℕ → List ℕ → Type 0
PassesBy (Ok p) a count s w kept = Holds a count s p w kept
PassesBy (Err q) a count s w kept = a ≡ refused_by q

-- a stage finds what is left to find, and keeps the work area's length
pub record Passes (a : Answer Found) (count : ℕ) (s w : List ℕ) (r : Resolved Passed) (w' kept : List ℕ) : Type 0 where
  pub says : PassesBy r a count s w' kept
  pub long : length w' ≡ length w

-- ## What is left of a call

-- what is said after the passes
abbrev pub said_by : Resolved Passed → ℕ → Bytes → Assemble.Said
said_by (Ok p) room bs = say p.count (fitting room p.count bs)
said_by (Err q) room bs = refusing (refusal_of q)

abbrev pub ReadyBy : Resolved Passed → List ℕ → List ℕ → List ℕ → Type 0
ReadyBy (Ok p) s w kept = Prepared s p w kept
ReadyBy (Err q) s w kept = Unit {0}

-- all passes: what is left of any call is its writer
pub record Prepares (strict : Bool) (s w : List ℕ) (r : Resolved Passed) (w' kept : List ℕ) : Type 0 where
  pub says : (names : Bool) (room : ℕ) → assemble_by (makes strict names) s (length w) room
      ≡ said_by r room (writes names (fields_in s) (scope_in s w', module_items s w'))
  pub ready : ReadyBy r s w' kept
  pub long : length w' ≡ length w
