-- Kinds before and after a block, and the blocks of rules.

use Rattle.std.proofs.Common.{◌≡◌, ℕ, suc, List, [], ◌∷◌, ◌++◌, length, true, refl, sym, ap, ◌∙◌, arith}
use Rattle.std.proofs.lemmas.Grind.{common_steps}
use Rattle.std.proofs.lemmas.List.{length-append}
use Rattle.machine_model.specs.declared.kind.Kind.{Kind}
use Rattle.machine_model.specs.declared.kind.Kind.TheVariants as kind
use Rattle.machine_model.specs.States.{put}
use Rattle.machine_model.specs.Kinds.{kind_le, Kinds, any_kinds, IsBelow}
use Rattle.machine_model.proofs.Orders.{kind_le_refl, below_trans}
use Rattle.compiler_model.specs.declared.lines.Action.{Action}
use Rattle.compiler_model.specs.declared.lines.Action.TheVariants.{LoadText, LoadList, LoadConst, CountMembers, Puts, Cuts}
use Rattle.compiler_model.specs.declared.lines.Test.{Test}
use Rattle.compiler_model.specs.declared.lines.Test.TheVariants.{IsUndefined, IsEmpty, HasNoMember, HasNoNumber, Differs, IsLess}
use Rattle.compiler_model.specs.Blocks.{Block, Nothing, Does, Then, Unless, Either, ForEach, LeaveIf, Leave, lines}

-- ---- what has to hold

abbrev pub HasKindIn : Kinds → ℕ → Kind → Type 0
HasKindIn ks a k = kind_le (ks a) k ≡ true

-- what an action needs, and the kinds after it
abbrev pub MeetsAction : Action → Kinds → Type 0
MeetsAction (CountMembers a b) ks = HasKindIn ks b kind.List
MeetsAction (Puts a w) ks = HasKindIn ks a kind.Text
MeetsAction (Cuts a n w) ks = HasKindIn ks a kind.Text
MeetsAction action ks = Unit {0}

abbrev pub after_action : Action → Kinds → Kinds
after_action (LoadText a name) ks = put ks a kind.OptText
after_action (LoadList a name) ks = put ks a kind.List
after_action (LoadConst a t) ks = put ks a kind.Text
after_action (CountMembers a b) ks = put ks a kind.Number
after_action action ks = ks

-- what a test needs, and the kinds if it continues with the next place; if it jumps, they are unchanged
abbrev pub MeetsTest : Test → Kinds → Type 0
MeetsTest (IsUndefined a) ks = HasKindIn ks a kind.OptText
MeetsTest (IsEmpty a) ks = HasKindIn ks a kind.Text
MeetsTest (HasNoMember a) ks = HasKindIn ks a kind.List
MeetsTest (HasNoNumber a b) ks = HasKindIn ks b kind.Text
MeetsTest (Differs a b) ks = HasKindIn ks a kind.Text × HasKindIn ks b kind.Text
MeetsTest (IsLess a b) ks = HasKindIn ks a kind.Number × HasKindIn ks b kind.Number

abbrev pub after_test : Test → Kinds → Kinds
after_test (IsUndefined a) ks = put ks a kind.Text
after_test (HasNoNumber a b) ks = put ks a kind.Number
after_test test ks = ks

-- a loop: its list, the kinds at its first place and at NEXT, and those of the edges to them and out of the loop
pub record LoopFits (a b : ℕ) (ks hs ns ms : Kinds) : Type 0 where
  pub list : HasKindIn ks b kind.List
  pub enters : IsBelow (put ks a kind.Text) hs
  pub returns : IsBelow (put ns a kind.Text) hs
  pub leaves : IsBelow (put ns a kind.Any) ms
  pub skips : IsBelow (put ks a kind.Any) ms

-- with the first kinds the needs of the block are met, and the kinds after it are at or below the second
abbrev pub Typed : Block → Kinds → Kinds → Type 0
Typed Nothing ks ms = IsBelow ks ms
Typed (Does action) ks ms = MeetsAction action ks × IsBelow (after_action action ks) ms
Typed (Then first second) ks ms = (mid : Kinds) × Typed first ks mid × Typed second mid ms
Typed (Unless test body) ks ms = MeetsTest test ks × IsBelow ks ms × Typed body (after_test test ks) ms
Typed (Either test first second) ks ms = MeetsTest test ks × Typed first (after_test test ks) ms × Typed second ks ms
Typed (ForEach a b body) ks ms = (hs : Kinds) × (ns : Kinds) × LoopFits a b ks hs ns ms × Typed body hs ns
Typed (LeaveIf test) ks ms = MeetsTest test ks × IsBelow (after_test test ks) ms
Typed Leave ks ms = Unit {0}

-- the kinds at each place of a block
abbrev pub rows : (b : Block) (ks ms : Kinds) → Typed b ks ms → List Kinds
rows Nothing ks ms h = []
rows (Does action) ks ms h = ks ∷ []
rows (Then first second) ks ms h = rows first ks h.0 h.1 ++ rows second h.0 ms h.2
rows (Unless test body) ks ms h = ks ∷ rows body (after_test test ks) ms h.2
rows (Either test first second) ks ms h = ks ∷ rows first (after_test test ks) ms h.1 ++ ms ∷ rows second ks ms h.2
rows (ForEach a b body) ks ms h = ks ∷ rows body h.0 h.1 h.3 ++ h.1 ∷ []
rows (LeaveIf test) ks ms h = ks ∷ []
rows Leave ks ms h = ks ∷ []

pub length-rows : (b : Block) (ks ms : Kinds) (h : Typed b ks ms) → length (rows b ks ms h) ≡ length (lines b)
length-rows Nothing ks ms h = refl
length-rows (Does action) ks ms h = refl
length-rows (Then x y) ks ms h = length-append (rows x ks h.0 h.1) _ ∙ rw (length-rows x ks h.0 h.1, length-rows y h.0 ms h.2)
    (sym (length-append (lines x) (lines y)))
length-rows (Unless t x) ks ms h = ap suc (length-rows x (after_test t ks) ms h.2)
length-rows (Either t x y) ks ms h =
    ap suc (length-append (rows x (after_test t ks) ms h.1) _ ∙ rw (length-rows x (after_test t ks) ms h.1, length-rows y ks ms h.2)
    (sym (length-append (lines x) _)))
length-rows (ForEach a b x) ks ms h = ap suc (length-append (rows x h.0 h.1 h.3) _ ∙ rw (length-rows x h.0 h.1 h.3) (sym (length-append (lines x) _)))
length-rows (LeaveIf t) ks ms h = refl
length-rows Leave ks ms h = refl

-- less may be known after a block
pub wider : (b : Block) (ks ms ns : Kinds) → IsBelow ms ns → Typed b ks ms → Typed b ks ns
wider Nothing ks ms ns le h = below_trans ks ms ns h le
wider (Does a) ks ms ns le h = (h.0, below_trans (after_action a ks) ms ns h.1 le)
wider (Then x y) ks ms ns le h = (h.0, h.1, wider y h.0 ms ns le h.2)
wider (Unless t x) ks ms ns le h = (h.0, below_trans ks ms ns h.1 le, wider x (after_test t ks) ms ns le h.2)
wider (Either t x y) ks ms ns le h = (h.0, wider x (after_test t ks) ms ns le h.1, wider y ks ms ns le h.2)
wider (ForEach a b x) ks ms ns le h = grind (arith, common_steps)
wider (LeaveIf t) ks ms ns le h = (h.0, below_trans (after_test t ks) ms ns h.1 le)
wider Leave ks ms ns le h = tt

-- the kinds after an action, and no more than these
pub exactly : (ks : Kinds) → IsBelow ks ks
exactly ks = record { at = λ r. kind_le_refl (ks r) }

-- ---- kinds of which little is known

pub below_any : (ks : Kinds) → IsBelow ks any_kinds
below_any ks = record { at = λ r. refl }

-- one register is known
abbrev pub only : ℕ → Kind → Kinds
only a k = put any_kinds a k

-- two registers are known
abbrev pub pair : ℕ → Kind → ℕ → Kind → Kinds
pair a k b m = put (put any_kinds a k) b m

pub put_above : (ks ms : Kinds) (a : ℕ) (k : Kind) → HasKindIn ks a k → IsBelow ks ms → IsBelow ks (put ms a k)
put_above ks ms a k h below = grind (arith, common_steps)

pub known_only : (ks : Kinds) (a : ℕ) (k : Kind) → HasKindIn ks a k → IsBelow ks (only a k)
known_only ks a k h = put_above ks any_kinds a k h (below_any ks)

pub known_pair : (ks : Kinds) (a : ℕ) (k : Kind) (b : ℕ) (m : Kind) → HasKindIn ks a k → HasKindIn ks b m → IsBelow ks (pair a k b m)
known_pair ks a k b m h g = put_above ks (only a k) b m g (known_only ks a k h)
