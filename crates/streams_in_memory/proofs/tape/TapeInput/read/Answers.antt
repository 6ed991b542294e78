use Rattle.std.proofs.Common.{ℕ, List, take, drop, refl, sym, ap, ◌∙◌}
use Rattle.std.proofs.lemmas.List.{take_rest}
use Rattle.http_streams.specs.Streams.{raised}
use Rattle.http_streams.specs.declared.tally.Tally.{Tally}
use Rattle.streams_in_memory.specs.InMemory.{TapeValue}
use Rattle.streams_in_memory.proofs.Reading.{rest-read}
use Rattle.streams_in_memory.proofs.tape.TapeInput.read.Goals as goal

pub returns-clause-read : goal.returns-clause-read
returns-clause-read c =
    let old = sym c.self.view_is in
    let n = c.copy_front-n.result in
    let begin = c.self.inside.read in
    let copied = rw (take_rest c.deref.result.now begin) at c.copy_front-n.ensures.bytes in
    let same = ap (λ (l : List ℕ). take n (drop begin l)) c.deref.ensures.value in
    let reads = ap (λ (tape : TapeValue). tape.reads) old in
    record {
      left = ap (λ (tape : TapeValue). tape.left) old ∙ rest-read c.self.inside.input.items c.copy_front-n.new.room begin n (copied ∙ same);
      taken = ap (λ (t : Tally). t.moved) c.add.ensures ∙ sym (ap (λ (t : Tally). raised t.moved n) reads);
      failures = ap (λ (t : Tally). t.failures) c.add.ensures ∙ sym (ap (λ (t : Tally). t.failures) reads);
      wait = refl;
    }
