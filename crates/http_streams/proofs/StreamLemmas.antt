-- Reads and writes that follow one another.
use Rattle.std.proofs.Common.{◌≡◌, ℕ, ◌+◌, ◌≤◌, List, [], ◌++◌, Option, Some, None, length, take, drop, refl, sym, ap, ◌∙◌, subst, append_assoc, arith}
use Rattle.std.proofs.Common.{inr}
use Rattle.std.proofs.Math.Nat.{add-zero}
use Rattle.std.proofs.Math.Seq.{take-add, take-append-add}
use Rattle.std.proofs.lemmas.List.{append-nil, length-append, length-take-le}
use Rattle.http_streams.specs.HeadReading.{IsReadWhole}
use Rattle.http_streams.specs.Streams.{InputState, Receives, IsAtEnd, Reads, OutputState, Sends, SendsInPart, Writes, raised}
use Rattle.http_streams.proofs.Counts.{raised-more, raised-none}

-- ---- bytes, if they are known

Reads-none : (bytes : Option (List ℕ)) → Reads bytes [] bytes
Reads-none (Some bytes) = refl
Reads-none None = tt

Reads-append : (before between after : Option (List ℕ)) (first second : List ℕ)
    → Reads before first between → Reads between second after → Reads before (first ++ second) after
Reads-append (Some before) (Some between) (Some after) first second one two =
    one ∙ ap (λ x. first ++ x) two ∙ sym (append_assoc first second after)
Reads-append (Some before) (Some between) None first second one two = two
Reads-append (Some before) None after first second one two = absurd one
Reads-append None (Some between) after first second one two = absurd one
Reads-append None None (Some after) first second one two = two
Reads-append None None None first second one two = tt

Writes-none : (bytes : Option (List ℕ)) → Writes bytes [] bytes
Writes-none (Some bytes) = sym (append-nil bytes)
Writes-none None = tt

Writes-append : (before between after : Option (List ℕ)) (first second : List ℕ)
    → Writes before first between → Writes between second after → Writes before (first ++ second) after
Writes-append (Some before) (Some between) (Some after) first second one two =
    two ∙ ap (λ x. x ++ second) one ∙ append_assoc before first second
Writes-append (Some before) (Some between) None first second one two = two
Writes-append (Some before) None after first second one two = absurd one
Writes-append None (Some between) after first second one two = absurd one
Writes-append None None (Some after) first second one two = two
Writes-append None None None first second one two = tt

-- after a read of nothing at the end of the input, it is still the end
IsAtEnd-read : (before after : Option (List ℕ)) → IsAtEnd before → Reads before [] after → IsAtEnd after
IsAtEnd-read (Some before) (Some after) ended read = sym read ∙ ended
IsAtEnd-read (Some before) None ended read = tt
IsAtEnd-read None (Some after) ended read = absurd read
IsAtEnd-read None None ended read = tt

-- ---- inputs

pub Receives-none : (input_state : InputState) → Receives input_state [] 0 input_state
Receives-none input_state = record { left = Reads-none input_state.left; taken = sym (raised-none input_state.taken); failures = refl; wait = refl }

-- the bytes of two reads were read
pub Receives-append : (before between after : InputState) (first second : List ℕ) (i n : ℕ)
    → Receives before first i between → Receives between second n after → Receives before (first ++ second) (i + n) after
Receives-append before between after first second i n one two = record {
  left = Reads-append before.left between.left after.left first second one.left two.left;
  taken = two.taken ∙ ap (λ (t : ℕ). raised t n) one.taken ∙ raised-more before.taken i n;
  failures = two.failures ∙ one.failures;
  wait = two.wait ∙ one.wait;
}

-- at the end of the input a read of nothing leaves the bytes that were read before
Receives-end : (before between after : InputState) (bytes : List ℕ) (i : ℕ)
    → Receives before bytes i between → Receives between [] 0 after → Receives before bytes i after
Receives-end before between after bytes i one two =
    subst (λ (k : ℕ). Receives before bytes k after) (add-zero i)
    (subst (λ (b : List ℕ). Receives before b (i + 0) after) (append-nil bytes) (Receives-append before between after bytes [] i 0 one two))

-- everything has been read if a read returns nothing
pub read-ended : (most : ℕ) (before between after : InputState) (old new rest : List ℕ) (i n : ℕ) → n ≡ 0 → i ≤ most → i ≤ length new
    → take i new ≡ take i old → Receives before (take i old) i between → Receives between (take n rest) n after → IsAtEnd between.left
    → IsReadWhole most before (take i new) after
read-ended most before between after old new rest i n none few fits kept one two ended =
    let length_is : length (take i new) ≡ i = length-take-le i new fits in
    let nothing : Receives between [] 0 after = subst (λ (k : ℕ). Receives between (take k rest) k after) none two in
    let all : Receives before (take i new) i after =
    subst (λ (b : List ℕ). Receives before b i after) (sym kept) (Receives-end before between after (take i old) i one nothing) in
    record {
      read = subst (λ (k : ℕ). Receives before (take i new) k after) (sym length_is) all;
      limit = omega (arith, length_is);
      stopped = inr (inr (IsAtEnd-read between.left after.left ended nothing.left));
    }

-- the first bytes of a buffer after one more read
pub take-read : (old new : List ℕ) (i n : ℕ) → take i new ≡ take i old → take (i + n) new ≡ take i old ++ take n (drop i new)
take-read old new i n kept = take-add i n new ∙ ap (λ x. x ++ take n (drop i new)) kept

-- ---- outputs

pub Sends-none : (output_state : OutputState) → Sends output_state [] 0 output_state
Sends-none output_state = record { written = Writes-none output_state.written; sent = sym (raised-none output_state.sent); failures = refl; wait = refl }

-- the bytes of two writes were written
pub Sends-append : (before between after : OutputState) (first second : List ℕ) (i n : ℕ)
    → Sends before first i between → Sends between second n after → Sends before (first ++ second) (i + n) after
Sends-append before between after first second i n one two = record {
  written = Writes-append before.written between.written after.written first second one.written two.written;
  sent = two.sent ∙ ap (λ (t : ℕ). raised t n) one.sent ∙ raised-more before.sent i n;
  failures = two.failures ∙ one.failures;
  wait = two.wait ∙ one.wait;
}

pub Sends-take : (before between after : OutputState) (bytes : List ℕ) (i n : ℕ)
    → Sends before (take i bytes) i between → Sends between (take n (drop i bytes)) n after → Sends before (take (i + n) bytes) (i + n) after
Sends-take before between after bytes i n one two =
    subst (λ (b : List ℕ). Sends before b (i + n) after) (sym (take-add i n bytes))
    (Sends-append before between after (take i bytes) (take n (drop i bytes)) i n one two)

-- ---- two texts, one after the other

pub Sends-both : (before between after : OutputState) (first second : List ℕ)
    → Sends before first (length first) between → Sends between second (length second) after
    → Sends before (first ++ second) (length (first ++ second)) after
Sends-both before between after first second one two =
    subst (λ (n : ℕ). Sends before (first ++ second) n after) (sym (length-append first second))
    (Sends-append before between after first second (length first) (length second) one two)

pub SendsInPart-second : (before between after : OutputState) (first second : List ℕ) (n : ℕ)
    → Sends before first (length first) between → SendsInPart between (take n second) n after
    → SendsInPart before (take (length first + n) (first ++ second)) (length first + n) after
SendsInPart-second before between after first second n one two = record {
  before = two.before;
  output_state = subst (λ (b : List ℕ). Sends before b (length first + n) two.before) (sym (take-append-add first second n))
      (Sends-append before between two.before first (take n second) (length first) n one two.output_state);
  failed = two.failed;
}
