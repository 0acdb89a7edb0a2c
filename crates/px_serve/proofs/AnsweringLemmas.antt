-- One exchange between the ends of a session.
use Rattle.std.proofs.Common.{◌≡◌, Bool, true, false, List, [], ℕ, length, drop, Option, None, Some, rules, arith, ap, sym, ◌∙◌, refl, inl, inr}
use Rattle.std.specs.Prelude.{if◌then◌else◌}
use Rattle.std.proofs.lemmas.List.{drop_all}
use Rattle.px_base.specs.Sinks.{SinkState}
use Rattle.px_base.specs.Dials.{DialerState}
use Rattle.px_streams.specs.Feeds.{FeedState}
use Rattle.px_ends.specs.Ends.{EndsState, client_stream}
use Rattle.px_ends.proofs.EndLemmas.{ends_same}
use Rattle.px_config.specs.declared.configs.Config.{Config}
use Rattle.px_judging.specs.Judging.{judged}
use Rattle.px_judging.specs.declared.handed.Handed.{Handed}
use Rattle.px_judging.specs.declared.judgements.Judgement.{Judgement}
use Rattle.px_notes.specs.Endings.{broken}
use Rattle.px_notes.specs.declared.endings.After.TheVariants as after
use Rattle.px_notes.specs.declared.endings.Conclusion.{Conclusion}
use Rattle.px_metered.specs.Measured.{IsMeasured}
use Rattle.px_metered.specs.Returned.{behind_empty_line, final_response, first_line, line_status, returned_of}
use Rattle.px_metered.specs.declared.responses.Tally.{Tally}
use Rattle.px_serve.specs.Answering.{AnswersBetween, AnswersHanded, Exchanges, none_returned}

-- what was judged of what is handed was done
pub answers_judged : (config running : Config) (h : Handed) (on : Bool) (old : EndsState) (client : FeedState) (out : SinkState) (dialer : DialerState) (j : Judgement) (x : Conclusion) (returned : Option Tally)
    → running ≡ config → j ≡ judged config h old.peer
    → Exchanges running j old.client client old.client_out out old.dialer dialer x → IsMeasured on old.client_out.taken out returned
    → AnswersBetween config (Some h) on old (record old { client = client; client_out = out; dialer = dialer }) x returned
answers_judged config running h on old client out dialer j x returned same is done measured = record {
  answers = λ t. inl (rw (← is, ← same) (done.answers t.client t.client_out t.dialer));
  read_cause = done.read_cause;
  write_cause = done.write_cause;
  still_open = done.still_open;
  returns = measured;
  clock_same = refl;
  goes_on = record { client = done.source_goes_on; client_out = done.sink_goes_on; dialer = done.dialer_goes_on; clock = (ends_same old).clock; peer_same = refl };
}

nothing_of : returned_of [] ≡ none_returned
unfolding returned_of final_response behind_empty_line first_line line_status
nothing_of = refl

-- nothing was returned, and that was measured or not
none_measured : (on : Bool) (s : SinkState) → IsMeasured on s.taken s (if on then Some none_returned else None)
none_measured true s = record {
  off = λ e. absurd (cc);
  some = λ e. refl;
  told = λ e t. ap (λ (r : Tally). Some r) (sym (ap returned_of (drop_all (length s.taken) s.taken (omega arith)) ∙ nothing_of));
}
none_measured false s = record { off = λ e. refl; some = λ e. absurd (cc); told = λ e t. absurd (cc) }

-- memory was wanting before anything was done
pub answers_nothing : (config : Config) (h : Option Handed) (on : Bool) (ends : EndsState)
    → AnswersBetween config h on ends ends (broken after.NoMemory) (if on then Some none_returned else None)
answers_nothing config h on ends = record {
  answers = λ t. by h;
  read_cause = tt;
  write_cause = tt;
  still_open = tt;
  returns = none_measured on ends.client_out;
  clock_same = refl;
  goes_on = ends_same ends;
}
  where
    by : (h : Option Handed) → AnswersHanded config ends.peer h (record { stream = client_stream ends; behind = client_stream ends }) ends.dialer ends.dialer ends.client_out.taken ends.client_out.taken (broken after.NoMemory)
    by None = (refl, refl, refl, refl)
    by (Some x) = inr (refl, refl, refl, refl)
