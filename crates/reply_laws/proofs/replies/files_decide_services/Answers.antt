use Rattle.registry.specs.Entries.{menu_of}
use Rattle.reply_laws.proofs.WrittenReplies.{each_connection}
use Rattle.reply_laws.proofs.replies.files_decide_services.Goals as goal

pub returns : goal.returns
returns c = λ laws disk old_keys new_keys path targets files by_rules wait old new all at_path of_files loaded.
    each_connection by_rules (menu_of targets) c.L.Listener.gives c.L.Listener.closes c.L.In.Input.input_state c.L.Out.Output.output_state wait
    (λ first last before after end sent written.
    laws.files_decide_replies.ensures.written disk loaded.keys path loaded.bytes targets files by_rules wait first last before after end sent written at_path
    of_files loaded.file loaded.held)
    old new all
