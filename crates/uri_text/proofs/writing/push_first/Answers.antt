use Rattle.std.proofs.Common.{arith, ◌≡◌, ◌++◌, refl, get_or, lit<}
use Rattle.std.proofs.lemmas.List.{get_or-take}
use Rattle.text_model.specs.Writing.{written, written_byte}
use Rattle.uri_text.proofs.Rests.{bytes_left, len_left, room_for}
use Rattle.uri_text.proofs.Firsts.{written-first}
use Rattle.uri_text.proofs.writing.push_first.Goals as goal

pub push_byte-requires : goal.push_byte-requires
push_byte-requires c = grind (arith, c.split_at.ensures.back, written-first, c.requires.some, room_for, c.requires.room)

pub returns-clause-items : goal.returns-clause-items
returns-clause-items c =
    let byte : get_or c.split_at.result.0.now 0 0 ≡ get_or c.args.text.now 0 0 = grind (arith, get_or-take) in
    let one : written c.args.writing c.args.text.now ≡ written_byte c.is_copied.result (get_or c.split_at.result.0.now 0 0)
    ++ written c.args.writing c.split_at.result.1.now =
    rw (c.is_copied.ensures, byte, c.split_at.ensures.back) (written-first c.args.writing c.args.text.now c.requires.some) in
    bytes_left _ _ _ _ _ _ c.push_byte.ensures.items one refl

pub returns-clause-len : goal.returns-clause-len
returns-clause-len c =
    let byte : get_or c.split_at.result.0.now 0 0 ≡ get_or c.args.text.now 0 0 =
    rw c.split_at.ensures.front (get_or-take 1 c.args.text.now 0 0 (lit< tt)) in
    let one : written c.args.writing c.args.text.now ≡ written_byte c.is_copied.result (get_or c.split_at.result.0.now 0 0)
    ++ written c.args.writing c.split_at.result.1.now =
    rw (c.is_copied.ensures, byte, c.split_at.ensures.back) (written-first c.args.writing c.args.text.now c.requires.some) in
    len_left _ _ _ _ _ _ c.push_byte.ensures.len one refl
