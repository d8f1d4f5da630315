-- How a server ends for its words.
use Rattle.std.proofs.Common.{◌≡◌, Result, Ok, Err, ap, sym, ◌∙◌, subst}
use Rattle.server_texts.specs.Words.{Means, Named}
use Rattle.server_texts.specs.declared.kinds.ServerKind.{ServerKind}
use Rattle.server_texts.specs.declared.words.ServerWords.{ServerWords}
use Rattle.server_texts.specs.declared.words.WordsFault.{WordsFault}
use Rattle.node_server.specs.Ends.{FollowsWords, IsNotForWords, kind_of_words}

-- words that were read
pub follows_read : (m : Result Named WordsFault) (read : ServerWords) (kind : ServerKind) → Means m (Ok read) → IsNotForWords kind
    → FollowsWords m kind
follows_read (Ok named) read kind means fits = fits
follows_read (Err fault) read kind means fits = absurd means

-- words that were refused
pub follows_refused : (m : Result Named WordsFault) (fault : WordsFault) (kind : ServerKind) → Means m (Err fault)
    → kind ≡ kind_of_words fault → FollowsWords m kind
follows_refused (Ok named) fault kind means is =
    let P : ServerKind → Type 0 = λ k. IsNotForWords k in subst P (sym (is ∙ ap kind_of_words means)) tt
follows_refused (Err refused) fault kind means is = λ other.
    is ∙ ap kind_of_words (means (λ short. other (is ∙ ap kind_of_words short)))
