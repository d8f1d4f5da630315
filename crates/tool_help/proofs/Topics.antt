-- What is said of an operation that a word names.
use Rattle.std.proofs.Common.{◌≡◌, ℕ, Bool, List, Option, Some, Result, Ok, Err, IfOk, slice_get, subst, sym}
use Rattle.ubik_types.specs.declared.memory.NoMemory.{NoMemory}
use Rattle.afs_words.specs.Matching.{meant_in}
use Rattle.afs_words.specs.Tables.{operation_name, operations_of}
use Rattle.afs_words.specs.declared.matching.Meant.{Meant}
use Rattle.afs_words.specs.declared.matching.Meant.TheVariants.{Item}
use Rattle.afs_words.specs.declared.tables.Tool.{Tool}
use Rattle.afs_words.specs.declared.tables.Operation.{Operation}
use Rattle.tool_help.specs.Answers.{Says, Told, told_of, told_some, topic_text}
use Rattle.tool_help.specs.declared.answers.Said.{Said}

pub topic_item : (r : Result Said NoMemory) (tool : Tool) (word shown : List ℕ) (alone : Bool) (operations : List Operation) (place : ℕ)
    (o : Operation) → operations ≡ operations_of tool → shown ≡ word → Item place ≡ meant_in operation_name operations shown →
    slice_get operations place ≡ Some o → IfOk r (λ said. Says said 0 (topic_text tool o alone)) → IfOk r (λ said. Told said tool word alone)
topic_item (Err e) tool word shown alone operations place o same bytes meant at said = tt
topic_item (Ok s) tool word shown alone operations place o same bytes meant at said =
    let by_tool = subst (λ (ops : List Operation). Item place ≡ meant_in operation_name ops shown) same meant in
    let by_word = subst (λ (w : List ℕ). Item place ≡ meant_in operation_name (operations_of tool) w) bytes by_tool in
    let found = subst (λ (ops : List Operation). slice_get ops place ≡ Some o) same at in
    subst (λ (m : Meant). told_of s tool word alone m) by_word
    (subst (λ (one : Option Operation). told_some s tool word alone one) (sym found) said)
