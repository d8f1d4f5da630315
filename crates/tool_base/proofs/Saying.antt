-- What is written of a text.
use Rattle.std.proofs.Common.{ℕ, List, [], take, drop, Option, Some, None, refl, sym, IfSome}
use Rattle.std.proofs.lemmas.List.{take-append-drop}
use Rattle.cell_script.specs.Write.{AppendsPart}
use Rattle.tool_base.specs.Ending.{FrontOf}

pub said_part : (before after : Option (List ℕ)) (text : List ℕ) → IfSome before (λ old. AppendsPart old after text)
    → FrontOf before after text
said_part None after text part = record { said = []; unsaid = text; text_is = refl; appended = tt }
said_part (Some old) after text part =
    record {
      said = take part.count text;
      unsaid = drop part.count text;
      text_is = sym
          (take-append-drop part.count text);
      appended = part.written;
    }
