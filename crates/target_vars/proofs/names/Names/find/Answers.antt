use Rattle.std.proofs.Common.{◌≡◌, [], true, false, length, get_or, slice_get, Some, bytes_eq, ap, subst, arith}
use Rattle.std.proofs.lemmas.Grind.{common_steps}
use Rattle.target_vars.specs.Private.NamesValue.{NamesValue, Leads, IsGap}
use Rattle.target_vars.proofs.NameForks.{found, gap_of}
use Rattle.target_vars.proofs.names.Names.find.Goals as goal

pub returns-then-eq : goal.returns-then-eq
returns-then-eq c =
    let r = c.self.inside in
    let number = c.search-last.result.1 in
    let same : bytes_eq (get_or c.args.self.now.listed number []) c.args.name.now ≡ true = grind (arith, common_steps) in
    let listed = ap (λ (v : NamesValue). v.listed) c.self.view_is in
    subst (λ (v : NamesValue). slice_get v.listed number ≡ Some c.args.name.now) c.self.view_is
    (found r.bytes.items r.places.items r.forks.items c.args.name.now number c.self.invariant (let here = ap length c.deref.ensures.value in
    omega (arith, c.search-last.ensures.known))
    (rw listed same))

pub returns-else-eq : goal.returns-else-eq
returns-else-eq c =
    let r = c.self.inside in
    let number = c.search-last.result.1 in
    let other : bytes_eq (get_or c.args.self.now.listed number []) c.args.name.now ≡ false = grind (arith, common_steps) in
    let listed = ap (λ (v : NamesValue). v.listed) c.self.view_is in
    let leads = subst (λ xs. Leads xs c.args.name.now c.search-last.result.0 number) c.deref.ensures.value
    (subst (λ n. Leads c.deref.result.now n c.search-last.result.0 number) c.as_bytes-name.ensures.value c.search-last.ensures.leads) in
    subst (λ (v : NamesValue). IsGap v c.args.name.now c.search-last.result.0) c.self.view_is
    (gap_of r.bytes.items r.places.items r.forks.items c.args.name.now c.search-last.result.0 number c.self.invariant
    (let here = ap length c.deref.ensures.value in omega (arith, c.search-last.ensures.known)) leads
    (rw listed other))
