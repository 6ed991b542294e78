use Rattle.std.proofs.Common.{◌≡◌, ◌∙◌, arith, ap, sym, refl, List, ℕ, ◌+◌, ◌-◌, ◌++◌, take, drop, append_assoc}
use Rattle.http_streams.specs.Closing.{is_closed}
use Rattle.http_streams.specs.Private.Progress.{closes_with}
use Rattle.http_streams.proofs.StreamLemmas.{Receives-append, Receives-none, read-ended, take-read}
use Rattle.http_streams.proofs.read.fill.Goals as goal

pub loop-filled-init : goal.loop-filled-init
loop-filled-init g c = record {
  within = omega arith;
  room = c.requires.within;
  capacity = c.requires.capacity;
  read = Receives-none (g.I.Input.input_state c.args.input.now);
  progress = λ more. refl;
}

pub loop-filled-preserved : goal.loop-filled-preserved
loop-filled-preserved g c =
    let i = c.loop-filled.filled in
    let n = c.in_ok-n.n in
    let old = c.loop-filled.room.items in
    let new = c.read_more.new.room.items in
    let part : List ℕ = take n (drop i new) in
    let kept = c.in_ok-n.ensures.kept ∙ c.widen.ensures.kept in
    let front = take-read old new i n kept in
    let requested : i + n - i ≡ n = omega arith in
    record {
      within = c.in_ok-n.ensures.within;
      room = omega (arith, c.widen.ensures.within, c.in_ok-n.ensures.len);
      capacity = omega (arith, c.widen.ensures.capacity, c.in_ok-n.ensures.capacity);
      read = rw front (Receives-append _ _ _ _ _ _ _ c.loop-filled.invariant.read c.in_ok-n.ensures.read);
      progress = λ more.
          (rw requested at (c.after_all-progress.ensures more))
          ∙ ap (λ room. closes_with c.loop-filled.progress (take n (drop i room) ++ more)) c.deref.ensures.value
          ∙ c.loop-filled.invariant.progress (part ++ more)
          ∙ ap is_closed (sym (append_assoc (take i old) part more) ∙ ap (λ x. x ++ more) (sym front));
    }

pub returns-then-n-eq0-clause-whole : goal.returns-then-n-eq0-clause-whole
returns-then-n-eq0-clause-whole g c =
    read-ended _ _ _ _ _ _ _ _ _ c.if-n-eq0.true (omega arith) (omega (arith, c.in_ok-n.ensures.within))
    (c.in_ok-n.ensures.kept ∙ c.widen.ensures.kept) c.loop-filled.invariant.read c.in_ok-n.ensures.read (c.in_ok-n.ensures.end c.if-n-eq0.true)
