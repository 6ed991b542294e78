use Rattle.std.proofs.Common.{IfErr, IfOk, subst}
use Rattle.std.proofs.Math.Path.{fun_ext}
use Rattle.std.proofs.lemmas.Result.{IfErr-weaker, IfOk-weaker}
use Rattle.registry_file.specs.Loading.{AreTargetsOf, IsLoaded, IsNotLoaded, IsRegistryFault, fails_on}
use Rattle.registry_file.proofs.LoadLemmas.{IsRead, not_loaded}
use Rattle.registry_file.proofs.load.load_registry.Goals as goal

pub returns-clause-ok : goal.returns-clause-ok
returns-clause-ok g c =
    let draws = g.K.KeySource.draws in
    let disk = g.F.Files.at c.args.files.now in
    let keys = c.in_ok-keys.keys in
    let all = subst (λ disk. IfOk c.registry_of.result (AreTargetsOf disk keys c.deref.result.now)) (fun_ext c.read_whole.ensures.same)
    c.registry_of.ensures.ok in
    IfOk-weaker c.registry_of.result (AreTargetsOf disk keys c.deref.result.now) (IsLoaded draws disk c.args.keys.now c.args.path.now c.draw.new.self)
    (λ targets held. record {
      bytes = c.in_ok-bytes.bytes.items;
      keys = keys;
      file = c.in_ok-bytes.ensures.whole;
      drawn = c.in_ok-keys.ensures.drawn;
      held = subst (λ bytes. AreTargetsOf disk keys bytes targets) c.deref.ensures.value held;
    }) all

pub returns-clause-err : goal.returns-clause-err
returns-clause-err g c =
    let draws = g.K.KeySource.draws in
    let disk = g.F.Files.at c.args.files.now in
    let fails = fails_on g.F.Files.at g.F.Files.fails disk in
    let read : IsRead draws disk c.args.keys.now c.args.path.now c.draw.new.self c.in_ok-bytes.bytes.items c.in_ok-keys.keys =
    record { short = c.in_ok-bytes.ensures.short; file = c.in_ok-bytes.ensures.whole; drawn = c.in_ok-keys.ensures.drawn } in
    let why = subst
    (λ disk. IfErr c.registry_of.result (IsRegistryFault (fails_on g.F.Files.at g.F.Files.fails disk) disk c.in_ok-keys.keys c.deref.result.now))
    (fun_ext c.read_whole.ensures.same) c.registry_of.ensures.err in
    IfErr-weaker c.registry_of.result (IsRegistryFault fails disk c.in_ok-keys.keys c.deref.result.now)
    (IsNotLoaded fails draws g.K.KeySource.fails disk c.args.keys.now c.args.path.now c.draw.new.self)
    (λ e line. not_loaded fails draws g.K.KeySource.fails disk c.args.keys.now c.args.path.now c.draw.new.self c.in_ok-bytes.bytes.items c.in_ok-keys.keys e
    read
    (subst (λ bytes. IsRegistryFault fails disk c.in_ok-keys.keys bytes e) c.deref.ensures.value line)) why
