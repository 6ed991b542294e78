use Rattle.std.proofs.Common.{arith}
use Rattle.title_markup.proofs.Sizes.{looked_up}
use Rattle.title_markup.proofs.references.named.Goals as goal

pub returns-then-size-le2 : goal.returns-then-size-le2
returns-then-size-le2 c =
    looked_up 2 c.args.name.now _ _ _ c.listed.ensures c.names_of_two.ensures c.characters_of_two.ensures
    (omega (arith, c.if-size-le2.true))

pub returns-then-size-eq3 : goal.returns-then-size-eq3
returns-then-size-eq3 c =
    looked_up 3 c.args.name.now _ _ _ c.listed-then-size-eq3.ensures c.names_of_three.ensures c.characters_of_three.ensures
    (omega (arith, c.if-size-eq3.true))

pub returns-then-size-eq4 : goal.returns-then-size-eq4
returns-then-size-eq4 c =
    looked_up 4 c.args.name.now _ _ _ c.listed-then-size-eq4.ensures c.names_of_four.ensures c.characters_of_four.ensures
    (omega (arith, c.if-size-eq4.true))

pub returns-then-size-eq5 : goal.returns-then-size-eq5
returns-then-size-eq5 c =
    looked_up 5 c.args.name.now _ _ _ c.listed-then-size-eq5.ensures c.names_of_five.ensures c.characters_of_five.ensures
    (omega (arith, c.if-size-eq5.true))

pub returns-else-size-eq5 : goal.returns-else-size-eq5
returns-else-size-eq5 c =
    looked_up 6 c.args.name.now _ _ _ c.listed-else-size-eq5.ensures c.names_of_six.ensures c.characters_of_six.ensures
    (omega (arith, c.if-size-le2.false, c.if-size-eq3.false, c.if-size-eq4.false, c.if-size-eq5.false))
