-- The line that names the line of a file that was the last.
use Rattle.std.proofs.Common.{◌≡◌, ℕ, ◌∙◌, List, [], ◌++◌, codes, Option, sym, ap₂, subst, inl, inr, append_assoc}
use Rattle.afs_words.specs.declared.tables.Tool.{Tool}
use Rattle.tool_base.specs.Ending.{Appended}
use Rattle.client_shell.specs.Runs.{Told}
use Rattle.client_shell.specs.Sources.{Named, line_named}

pub named_told : (tool : Tool) (number own : ℕ) (bytes : List ℕ) (status : ℕ) (before after : Option (List ℕ))
    → bytes ≡ line_named tool number own →
    Told bytes own status before after → Named tool number own before after status
named_told tool number own bytes status before after same (inl whole) =
    inl (whole.0, subst (λ (t : List ℕ). Appended before after t) same whole.1)
named_told tool number own bytes status before after same (inr front) = inr (inl front.0)

regrouped : (a b c d e f : List ℕ) → ((((a ++ b) ++ c) ++ d) ++ e) ++ f ≡ a ++ (b ++ (c ++ (d ++ (e ++ f))))
regrouped a b c d e f = simp append_assoc

-- the parts of the line, as they are written behind each other
pub line_written : (new text command name number own : List ℕ) →
    new ≡ text ++ (command ++ (codes ": line " ++ (number ++ (codes " ended with " ++ (own ++ codes "\n"))))) → text ≡ [] → command ≡ name →
    new ≡ name ++ codes ": line " ++ number ++ codes " ended with " ++ own ++ codes "\n"
line_written new text command name number own written empty same =
    let rest : List ℕ = codes ": line " ++ (number ++ (codes " ended with " ++ (own ++ codes "\n"))) in
    written ∙ ap₂ (λ (t s : List ℕ). t ++ (s ++ rest)) empty same
    ∙ sym (regrouped name (codes ": line ") number (codes " ended with ") own (codes "\n"))
