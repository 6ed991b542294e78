-- What code ends with depends only on what the names of its table denote.
use Rattle.std.proofs.Common.{◌≡◌, ℕ, zero, suc, List, [], ◌∷◌, Some, sym, ◌∙◌, subst, slice_get}
use Rattle.std.specs.Prelude.{◌↔◌, All}
use Rattle.std.proofs.lemmas.List.Elements.{All-head, All-tail}
use Rattle.std.proofs.lemmas.Option.{same_Some}
use Rattle.environment_model.specs.Environment.{Environment, text_of, members_of}
use Rattle.code_model.specs.Code.{Code, Name}
use Rattle.machine_model.specs.Next.{state_after}
use Rattle.machine_model.specs.Runs.{After, HasOutcome, IsStuck, Outcome}
use Rattle.machine_model.specs.Runs as outcome
use Rattle.machine_model.specs.States.{Frame, Running, State}
use Rattle.machine_model.specs.Step.{StepsTo}
use Rattle.rule_menus.proofs.SameRuns.{AgreeOn, same_states}
use Rattle.menu_laws.specs.Keys.{DenoteTheSame}

-- the state after a number of steps is the one that is computed
abbrev pub StatesAreDecided : Type 0
StatesAreDecided = (c : Code) (v : Environment) (k : ℕ) (s : State) → After c v k s ↔ (state_after c v k ≡ Some s)

each_entry : (P : Name → Type 0) (names : List Name) (k : ℕ) (name : Name) → All P names → slice_get names k ≡ Some name → P name
each_entry P [] k name all at = absurd (cc)
each_entry P (n ∷ names) zero name all at = let same : n ≡ name = cc in subst P same (All-head P n names all)
each_entry P (n ∷ names) (suc k) name all at = each_entry P names k name (All-tail P n names all) at

agree_on : (c : Code) (v w : Environment) → DenoteTheSame c v w → AgreeOn c v w
agree_on c v w same k name at =
    each_entry (λ name. (text_of v name.text ≡ text_of w name.text) × (members_of v name.text ≡ members_of w name.text)) c.names k name same at

turned : (c : Code) (v w : Environment) → AgreeOn c v w → AgreeOn c w v
turned c v w agree k name at = let both = agree k name at in (sym both.0, sym both.1)

-- where a run is stuck, so is the other
still_stuck : StatesAreDecided → (c : Code) (v w : Environment) (k : ℕ) (s : Frame) → AgreeOn c v w → After c v k (Running s) → IsStuck c v (Running s)
    → IsStuck c w (Running s)
unfolding After
still_stuck decided c v w k s agree after stuck new step =
    let next : After c v (suc k) new = same_states c w v (turned c v w agree) (suc k) new (Running s, same_states c v w agree k (Running s) after, step) in
    let same : next.0 ≡ Running s =
    same_Some next.0 (Running s) (sym ((decided c v k next.0).0 next.1) ∙ (decided c v k (Running s)).0 after) in
    stuck new (subst (λ (old : State). StepsTo c v old new) same next.2)

pub same_outcome : StatesAreDecided → (c : Code) (v w : Environment) (o : Outcome) → DenoteTheSame c v w → HasOutcome c v o → HasOutcome c w o
same_outcome decided c v w (outcome.Link link) same has = (has.0, same_states c v w (agree_on c v w same) has.0 _ has.1)
same_outcome decided c v w outcome.NoLink same has = (has.0, same_states c v w (agree_on c v w same) has.0 _ has.1)
same_outcome decided c v w (outcome.Stuck place) same has =
    let agree = agree_on c v w same in
    let end = has.1 in
    (has.0, (end.0, same_states c v w agree has.0 _ end.1, end.2, still_stuck decided c v w has.0 end.0 agree end.1 end.3))
