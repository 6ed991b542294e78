-- The code of rules: its tables have the entries of its lines, and it contains the lines.
use Rattle.std.proofs.Common.{◌≡◌, ℕ, List, length, Some, Bool, true, false, refl, arith}
use Rattle.std.specs.Prelude.{slice_get, nat_lt, nat_le}
use Rattle.std.specs.List.{AllByRecursion}
use Rattle.std.proofs.lemmas.Grind.{common_steps}
use Rattle.std.proofs.lemmas.Bool.{lt-ltb, eq-eqb}
use Rattle.std.proofs.lemmas.Option.{slice_get_within}
use Rattle.text_model.specs.declared.writing.Writing.{Writing}
use Rattle.text_model.proofs.Lists.{all_append}
use Rattle.code_model.specs.Code.{Code, spelling, reading}
use Rattle.code_model.specs.declared.code.Instruction.{Instruction}
use Rattle.machine_model.specs.Operands.{has_right_operands, register_count}
use Rattle.compiler_model.specs.declared.lines.Action.{Action}
use Rattle.compiler_model.specs.declared.lines.Action.TheVariants.{LoadText, LoadList, LoadConst, CountMembers, Emits, Separates, Puts, Cuts}
use Rattle.compiler_model.specs.declared.lines.Test.TheVariants.{IsUndefined, IsEmpty, HasNoMember, HasNoNumber, Differs, IsLess}
use Rattle.compiler_model.specs.declared.lines.Line.{Line}
use Rattle.compiler_model.specs.declared.lines.Line.TheVariants.{Acts, Tests, Jumps, Begins, Turns, Halts, Fails}
use Rattle.compiler_model.specs.Blocks.{Block, Nothing, Does, Then, Unless, Either, ForEach, LeaveIf, Leave, lines}
use Rattle.compiler_model.specs.Tables.{name_entry, literal_entry, name_index, literal_index}
use Rattle.compiler_model.specs.Compiled.{mode_of, line_instruction}
use Rattle.compiler_model.proofs.Places.{IsPlaced}
use Rattle.compiler_model.proofs.Formed.{IsRegister, IsFormedAction, IsFormedTest, IsFormed}

-- ---- lines of blocks that are correctly assembled

-- an action's line, wherever it is
abbrev pub IsFormedLine : ℕ → Line → Type 0
IsFormedLine version (Acts action) = IsFormedAction version true action
IsFormedLine version (Tests test target) = IsFormedTest test
IsFormedLine version (Begins a b places) = IsRegister a × IsRegister b
IsFormedLine version line = Unit {0}

anywhere : (version : ℕ) (inside : Bool) (a : Action) → IsFormedAction version inside a → IsFormedAction version true a
anywhere version inside a h = grind (arith, common_steps)

pub lines_formed : (version : ℕ) (inside : Bool) (b : Block) → IsFormed version inside b → AllByRecursion (IsFormedLine version) (lines b)
lines_formed version inside Nothing h = tt
lines_formed version inside (Does a) h = (anywhere version inside a h, tt)
lines_formed version inside (Then x y) h = all_append _ (lines x) (lines y) (lines_formed version inside x h.0) (lines_formed version inside y h.1)
lines_formed version inside (Unless t x) h = (h.0, lines_formed version inside x h.1)
lines_formed version inside (Either t x y) h = (h.0, all_append _ (lines x) _ (lines_formed version inside x h.1) (tt, lines_formed version inside y h.2))
lines_formed version inside (ForEach a b x) h = ((h.1, h.2), all_append _ (lines x) _ (lines_formed version true x h.3) (tt, tt))
lines_formed version inside (LeaveIf t) h = (h.1, tt)
lines_formed version inside Leave h = (tt, tt)

-- ---- the instruction of a line can be read in its code

-- the tables have the entries of a line
abbrev pub HasEntries : Code → Line → Type 0
HasEntries c (Acts (LoadText a name)) = slice_get c.names (name_index c.names false name) ≡ Some (name_entry false name)
HasEntries c (Acts (LoadList a name)) = slice_get c.names (name_index c.names true name) ≡ Some (name_entry true name)
HasEntries c (Acts (LoadConst a t)) = slice_get c.literals (literal_index c.literals true t) ≡ Some (literal_entry true t)
HasEntries c (Acts (Emits t)) = slice_get c.literals (literal_index c.literals false t) ≡ Some (literal_entry false t)
HasEntries c (Acts (Separates t)) = slice_get c.literals (literal_index c.literals false t) ≡ Some (literal_entry false t)
HasEntries c line = Unit {0}

module _ (c : Code) where
  register_right : (r : ℕ) → IsRegister r → nat_lt r (register_count c) ≡ true
  register_right r h = grind (arith, common_steps)

  within_table : {X : Type 0} (xs : List X) (n : ℕ) (x : X) → slice_get xs n ≡ Some x → nat_lt n (length xs) ≡ true
  within_table xs n x h = lt-ltb n (length xs) (slice_get_within xs n x h)

  mode_right : (w : Writing) → nat_le (mode_of w) 1 ≡ true
  mode_right w = grind (arith, common_steps)

  abbrev instruction_at : ℕ → ℕ → Line → Instruction
  instruction_at away place line = line_instruction c.names c.literals away place line

  operands_right : (away place : ℕ) (line : Line) → IsFormedLine c.version line → HasEntries c line
      → has_right_operands c (instruction_at away place line) ≡ true
  unfolding has_right_operands
  operands_right away place (Acts (LoadText a name)) f h = rw (register_right a f, within_table c.names _ _ h, h) refl
  operands_right away place (Acts (LoadList a name)) f h = rw (register_right a f, within_table c.names _ _ h, h) refl
  operands_right away place (Acts (LoadConst a t)) f h = rw (register_right a f, within_table c.literals _ _ h, h) refl
  operands_right away place (Acts (CountMembers a b)) f h = rw (register_right a f.0, register_right b f.1) refl
  operands_right away place (Acts (Emits t)) f h = rw (within_table c.literals _ _ h, h) refl
  operands_right away place (Acts (Separates t)) f h = rw (within_table c.literals _ _ h, h) refl
  operands_right away place (Acts (Puts a w)) f h = rw (register_right a f, mode_right w) refl
  operands_right away place (Acts (Cuts a n w)) f h = rw (register_right a f.0, f.1, mode_right w) refl
  operands_right away place (Tests (IsUndefined a) g) f h = rw (register_right a f) refl
  operands_right away place (Tests (IsEmpty a) g) f h = rw (register_right a f) refl
  operands_right away place (Tests (HasNoMember a) g) f h = rw (register_right a f) refl
  operands_right away place (Tests (HasNoNumber a b) g) f h = rw (register_right a f.0, register_right b f.1) refl
  operands_right away place (Tests (Differs a b) g) f h = rw (register_right a f.0, register_right b f.1) refl
  operands_right away place (Tests (IsLess a b) g) f h = rw (register_right a f.0, register_right b f.1) refl
  operands_right away place (Jumps g) f h = refl
  operands_right away place (Begins a b n) f h = rw (register_right a f.0, register_right b f.1) refl
  operands_right away place Turns f h = refl
  operands_right away place Halts f h = refl
  operands_right away place Fails f h = refl

  version_knows : (away place : ℕ) (line : Line) → IsFormedLine c.version line → reading c.version (spelling (instruction_at away place line))
      ≡ Some (instruction_at away place line)
  unfolding reading
  version_knows away place (Acts (LoadText a name)) f = refl
  version_knows away place (Acts (LoadList a name)) f = refl
  version_knows away place (Acts (LoadConst a t)) f = refl
  version_knows away place (Acts (CountMembers a b)) f = rw (eq-eqb c.version 2 f.2) refl
  version_knows away place (Acts (Emits t)) f = refl
  version_knows away place (Acts (Separates t)) f = refl
  version_knows away place (Acts (Puts a w)) f = refl
  version_knows away place (Acts (Cuts a n w)) f = refl
  version_knows away place (Tests (IsUndefined a) g) f = refl
  version_knows away place (Tests (IsEmpty a) g) f = refl
  version_knows away place (Tests (HasNoMember a) g) f = refl
  version_knows away place (Tests (HasNoNumber a b) g) f = refl
  version_knows away place (Tests (Differs a b) g) f = refl
  version_knows away place (Tests (IsLess a b) g) f = refl
  version_knows away place (Jumps g) f = refl
  version_knows away place (Begins a b n) f = refl
  version_knows away place Turns f = refl
  version_knows away place Halts f = refl
  version_knows away place Fails f = refl

  -- the instruction of a line is at its place
  pub placed : (away place : ℕ) (line : Line) → IsFormedLine c.version line → HasEntries c line
      → slice_get c.instrs place ≡ Some (spelling (instruction_at away place line)) → IsPlaced c away place line
  placed away place line f h at = grind (arith, version_knows, operands_right)
