use Rattle.std.proofs.Common.{◌≡◌, List, Some, subst, arith}
use Rattle.std.proofs.lemmas.Grind.{common_steps}
use Rattle.text_model.specs.Texts.{Text}
use Rattle.environment_model.specs.Lists.{is_list}
use Rattle.row_laws.specs.Shadowing.{requested}
use Rattle.row_scope.specs.Bindings.{IsBound, laid_in}
use Rattle.row_scope.specs.NameNumbers.{own_number}
use Rattle.row_scope.specs.RowValue.{KnownValue}
use Rattle.row_scope.specs.Private.Kept.{IsKnown}
use Rattle.row_scope.specs.declared.binding.Binding.{Binding}
use Rattle.row_scope.specs.declared.known_values.KnownName.{KnownName}
use Rattle.row_scope.proofs.KnownLemmas.{one_more_known}
use Rattle.row_scope.proofs.NumberLemmas.{one_name}
use Rattle.row_scope.proofs.known_values.KnownValues.binding.Goals.{Joined-get_mut, in-Some-get_mut, in_default-get_mut}
use Rattle.row_scope.proofs.known_values.KnownValues.binding.Goals as goal

abbrev BindsAs : KnownValue → List Text → Text → Binding → Type 0
BindsAs known declared = IsBound (laid_in known.request.values (requested declared known.request.pairs))

-- the number is that of no other name
its_own : (c : Joined-get_mut) → own_number c.self.inside.numbered.now.names c.args.name.now ≡ Some c.in-Some.number
its_own c = grind (arith, common_steps)

pub invariant_of-self : goal.invariant_of-self
invariant_of-self c =
    let inside = c.self.inside in
    let known : KnownValue = record { request = inside.request.now; numbered = inside.numbered.now.names } in
    let k : KnownName = record { is_list = c.args.is_list; binding = c.looked_up-binding.result } in
    let its : IsKnown known c.in-Some.number k =
    λ name declared own listed.
    let same = one_name known.numbered c.args.name.now name c.in-Some.number (its_own c) own in
    subst (λ n. k.is_list ≡ is_list declared n → BindsAs known declared n k.binding) same (c.looked_up-binding.ensures declared) listed in
    elim c.match-get_mut.branch [
      | in-Some-get_mut w ↦ rw w.self-inside-is (one_more_known known inside.names.items c.in-Some.number k c.self.invariant its)
      | in_default-get_mut w ↦ rw w.self-inside-is c.self.invariant
    ]
