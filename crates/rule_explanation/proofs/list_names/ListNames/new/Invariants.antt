use Rattle.std.proofs.Common.{◌≡◌, take}
use Rattle.text_model.specs.Texts.{Text, texts_of}
use Rattle.environment_model.specs.Environment.{is_among}
use Rattle.rule_explanation.specs.Private.ListNames.{has, keys_of}
use Rattle.rule_explanation.proofs.list_names.ListNames.new.Given as goal

-- the names so far were added, under the keys
abbrev pub invariant-loop-name : goal.invariant-loop-name
invariant-loop-name l = record {
  names : (name : Text) → has l.found name ≡ is_among name (texts_of (take l.name-index l.names));
  keys : keys_of l.found ≡ l.fn.keys;
}
