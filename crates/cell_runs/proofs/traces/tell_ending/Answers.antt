use Rattle.std.proofs.Common.{◌++◌, ◌∷◌, [], ℕ, List, ap, sym, ◌∙◌, append_assoc}
use Rattle.std.specs.Prelude.{codes}
use Rattle.std.specs.Fmt.{decimal}
use Rattle.std.specs.String.{string_bytes}
use Rattle.cell_runs.specs.declared.endings.Ending.{Ending}
use Rattle.cell_runs.specs.Trace.{ending_text}
use Rattle.cell_runs.proofs.traces.tell_ending.Goals as goal

pub returns-in_ok-writeln-in-Refused : goal.returns-in_ok-writeln-in-Refused
returns-in_ok-writeln-in-Refused c =
    c.in_ok-writeln-in-Refused.ensures.bytes
    ∙ ap (λ (t : List ℕ). string_bytes c.args.text.now ++ (codes "refused line " ++ t)) (sym (append_assoc (decimal c.args.line) (32 ∷ c.why_word-why.result.now) (10 ∷ [])))
    ∙ ap (λ (word : List ℕ). string_bytes c.args.text.now ++ (codes "refused line " ++ decimal c.args.line ++ 32 ∷ word ++ 10 ∷ [])) c.why_word-why.ensures
    ∙ ap (λ (e : Ending). string_bytes c.args.text.now ++ ending_text c.args.line e) (sym c.in-Refused.is)
