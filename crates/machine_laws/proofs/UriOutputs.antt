-- Each output of a code whose link texts are URI text is URI text.
use Rattle.std.proofs.Common.{arith, ◌≡◌, ℕ, zero, suc, [], true, sym, ap, subst}
use Rattle.std.proofs.lemmas.Grind.{common_steps}
use Rattle.std.specs.Prelude.{slice_get}
use Rattle.text_model.specs.Texts.{Text}
use Rattle.text_model.specs.UriText.{IsUriText, nothing}
use Rattle.text_model.specs.Writing.{written}
use Rattle.text_model.specs.Cut.{cut}
use Rattle.environment_model.specs.Environment.{Environment}
use Rattle.code_model.specs.Code.{Code}
use Rattle.code_model.specs.declared.code.Instruction.{Instruction}
use Rattle.code_model.specs.declared.code.Instruction.TheVariants.{Emit, Sep}
use Rattle.text_model.proofs.UriTexts.{IsUriText-append, written-uri}
use Rattle.machine_model.specs.Operands.{is_link_text, has_right_operands, literal_at, writing_of}
use Rattle.machine_model.specs.States.{Frame, Link, NoLink, State}
use Rattle.machine_model.specs.Step.{Move, Ends, MovesTo, Returns, Does, fail, emit, put_text, cut_text, later_turn, Leads, StepsTo}
use Rattle.machine_model.specs.Runs.{After}
use Rattle.machine_model.specs.Safe.{IsFileCode, output_of}

abbrev pub move_output : Move → Text
move_output (Ends (Link printed)) = printed
move_output (Ends NoLink) = []
move_output (MovesTo s) = s.output
move_output (Returns s) = s.output

pub lead_output : (c : Code) (from : ℕ) (m : Move) (new : State) → Leads c from m new → output_of new ≡ move_output m
lead_output c from (Ends (Link printed)) new h = ap output_of h
lead_output c from (Ends NoLink) new h = ap output_of h
lead_output c from (MovesTo s) new h = ap output_of h.1
lead_output c from (Returns s) new h = ap output_of h

-- EMIT and SEP name link texts
emit_link : (c : Code) (b : ℕ) → has_right_operands c (Emit b) ≡ true → is_link_text (slice_get c.literals b) ≡ true
unfolding has_right_operands
emit_link c b h = grind (arith, common_steps)

sep_link : (c : Code) (b : ℕ) → has_right_operands c (Sep b) ≡ true → is_link_text (slice_get c.literals b) ≡ true
unfolding has_right_operands
sep_link c b h = grind (arith, common_steps)

module _ (c : Code) (v : Environment) where
  -- a move prints only URI text
  uri_move : (s : Frame) (i : Instruction) (m : Move) → IsFileCode c → has_right_operands c i ≡ true → IsUriText s.output → Does c v s i m
      → IsUriText (move_output m)
  uri_move s _ _ k ok h fail = nothing
  uri_move s _ _ k ok h (emit b) = IsUriText-append s.output (literal_at c b) h (k.links b (emit_link c b ok))
  uri_move s _ _ k ok h (later_turn b l e f) = IsUriText-append s.output (literal_at c b) h (k.links b (sep_link c b ok))
  uri_move s _ _ k ok h (put_text a m t e) = IsUriText-append s.output (written (writing_of m) t) h (written-uri (writing_of m) t)
  uri_move s _ _ k ok h (cut_text a n m t e) =
      IsUriText-append s.output (written (writing_of m) (cut (writing_of m) t n)) h (written-uri (writing_of m) (cut (writing_of m) t n))
  uri_move s _ _ k ok h _ = h

  uri_step : (s new : State) → IsFileCode c → IsUriText (output_of s) → StepsTo c v s new → IsUriText (output_of new)
  uri_step s new k h st = grind (arith, uri_move)

  -- for any code whose link texts are URI text
  pub uri_after : IsFileCode c → (k : ℕ) (s : State) → After c v k s → IsUriText (output_of s)
  unfolding After
  uri_after g zero s h = subst (λ x. IsUriText (output_of x)) (sym h) nothing
  uri_after g (suc k) s h = uri_step h.0 s g (uri_after g k h.0 h.1) h.2
