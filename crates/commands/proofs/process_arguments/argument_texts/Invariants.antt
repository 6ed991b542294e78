use Rattle.std.proofs.Common.{◌≡◌, map, take, string_bytes}
use Rattle.text_model.specs.Texts.{texts_of}
use Rattle.commands.proofs.process_arguments.argument_texts.Given as goal

abbrev pub invariant-loop-argument : goal.invariant-loop-argument
invariant-loop-argument l = texts_of l.texts.items ≡ map string_bytes (take l.argument-index l.arguments)
