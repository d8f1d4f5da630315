use Rattle.std.proofs.Common.{◌∙◌, ℕ, List, ap, sym}
use Rattle.std.specs.Prelude.{nat_lt}
use Rattle.std.specs.List.{list_all}
use Rattle.pt_calls.specs.Words.{call_of_words}
use Rattle.call_grammar.proofs.Fitting.{only_these}
use Rattle.pt_database.proofs.service.PtServiceDraftWords.call_words.Goals as goal

pub returns-in-Some : goal.returns-in-Some
returns-in-Some c =
    only_these (call_of_words c.args.call.now) c.in-Some.bytes (sym c.in_ok-call_words.ensures ∙ c.in-Some.is)
    (ap (λ (l : List ℕ). list_all (λ b. nat_lt b 256) l) (sym c.as_slice.ensures) ∙ c.bytes_fit.ensures)
