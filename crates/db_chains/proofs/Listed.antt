-- What was read so far along a chain.
use Rattle.std.proofs.Common.{◌≡◌, ◌≢◌, ℕ, ◌+◌, ◌-◌, ◌*◌, ◌≤◌, true, false, List, [], ◌∷◌, ◌++◌, Option, Some, None, IfSome, length, refl, sym, ap, subst, ◌∙◌}
use Rattle.db_image.specs.Draft.{Drafted}
use Rattle.db_image.specs.declared.images.ImageRead.{Ghosts}
use Rattle.std.proofs.lemmas.List.{map-append}
use Rattle.db_blocks.specs.Blocks.{block_in, block_place, word_at}
use Rattle.db_chains.specs.declared.changes.Until.TheVariants.{End}
use Rattle.db_chains.specs.declared.links.Links.{Links}
use Rattle.db_chains.specs.declared.walks.Link.{Link}
use Rattle.db_chains.specs.Along.{StandAlong, along}
use Rattle.db_chains.specs.Chains.{HasChain}
use Rattle.db_chains.specs.Changes.{is_until}
use Rattle.db_chains.specs.Ends.{LooksAtMost}
use Rattle.db_chains.specs.Links.{AreLinks, block_of, is_right, names_block, next_in, next_place}
use Rattle.db_chains.specs.Walks.{IsLink, place_behind}
use Rattle.db_chains.proofs.Ended.{walked_more}
use Rattle.db_chains.proofs.Paths.{IsPath}
use Rattle.db_chains.proofs.Walked.{IsOnWay, Walked, behind_more, walked_none}

-- the words stand one behind the other, and the next one is at this place
pub record IsRead (l : Links) (image : List ℕ) (at : ℕ) (words : List ℕ) (place word : ℕ) : Type 0 where
  pub path : IsPath l image at words
  pub behind : place ≡ place_behind l at words
  pub stands : word ≡ word_at image place

abbrev pub AreRead : Links → List ℕ → (at place word offset : ℕ) → List ℕ → Type 0
AreRead l image at place word offset found =
    (words : List ℕ) × IsRead l image at words place word × (found ≡ along l image offset words)

pub record Listed {I : Type 0} (g : Ghosts I) (first now : Drafted I) (l : Links) (at count left place word offset : ℕ)
    (found : List ℕ) : Type 0 where
  pub walked : Walked g first now l (is_until End) at count left place word
  pub read : IfSome first.bytes (λ image. AreRead l image at place word offset found)

none_read : (bytes : Option (List ℕ)) (l : Links) (at word offset : ℕ) (found : List ℕ) → found ≡ []
    → IfSome bytes (λ image. word ≡ word_at image at) → IfSome bytes (λ image. AreRead l image at at word offset found)
none_read None l at word offset found empty reads = tt
none_read (Some image) l at word offset found empty reads = ([], record { path = tt; behind = refl; stands = reads }, empty)

pub listed_none : {I : Type 0} (g : Ghosts I) (first now : Drafted I) (l : Links) (at count left word offset : ℕ) (found : List ℕ)
    (failed : Type 0)
    → LooksAtMost g 4 first now failed → IfSome first.bytes (λ image. length image ≡ block_place l.head count) → left ≡ count * l.kinds
    → at + 4 ≤ first.len → IfSome first.bytes (λ image. word ≡ word_at image at) → found ≡ []
    → Listed g first now l at count left at word offset found
listed_none g first now l at count left word offset found failed looks told all within reads empty = record {
  walked = walked_none g first now l (is_until End) at count left word failed looks told all within reads;
  read = none_read first.bytes l at word offset found empty reads;
}

path_more : (l : Links) (image : List ℕ) (at w : ℕ) (ws : List ℕ) → IsPath l image at ws → word_at image (place_behind l at ws) ≡ w
    → is_right l image w ≡ true → IsPath l image at (ws ++ w ∷ [])
path_more l image at w [] path stands is = (stands, is, tt)
path_more l image at w (v ∷ ws) path stands is = (path.0, path.1, path_more l image (next_place l v) w ws path.2 stands is)

-- a word more, and what stands in its block
read_more : (l : Links) (image : List ℕ) (at place word to next offset value : ℕ) (found more : List ℕ) (f : Link)
    → AreRead l image at place word offset found → IsLink l image place f → f.word ≡ word → to ≡ next_place l word
    → next ≡ word_at image to → value ≡ word_at f.block offset → more ≡ found ++ value ∷ []
    → AreRead l image at to next offset more
read_more l image at place word to next offset value found more f read link named is stands told made =
    let words = read.0 in
    let r = read.1 in
    let here : ℕ = word_at (block_in l.head image (block_of l word)) offset in
    let value_is : value ≡ here =
    told ∙ ap (λ (b : List ℕ). word_at b offset) link.block
    ∙ ap (λ (w : ℕ). word_at (block_in l.head image (block_of l w)) offset) named in (
      words ++ word ∷ [],
      record {
        path = path_more l image at word words r.path (ap (word_at image) (sym r.behind) ∙ sym r.stands)
            (ap (is_right l image) (sym named) ∙ link.right);
        behind = is ∙ sym (behind_more l at word words);
        stands = stands;
      },
      made ∙ ap (λ (v : ℕ). found ++ v ∷ []) value_is ∙ ap (λ (vs : List ℕ). vs ++ here ∷ []) read.2
          ∙ sym (map-append (λ w. word_at (block_in l.head image (block_of l w)) offset) words (word ∷ [])),
    )

more_read : (bytes now : Option (List ℕ)) (l : Links) (at place word to next offset value : ℕ) (found more : List ℕ) (f : Link)
    → now ≡ bytes → IfSome bytes (λ image. AreRead l image at place word offset found) → IfSome now (λ image. IsLink l image place f)
    → f.word ≡ word → to ≡ next_place l word → IfSome bytes (λ image. next ≡ word_at image to) → value ≡ word_at f.block offset
    → more ≡ found ++ value ∷ [] → IfSome bytes (λ image. AreRead l image at to next offset more)
more_read None now l at place word to next offset value found more f same read link named is stands told made = tt
more_read (Some image) now l at place word to next offset value found more f same read link named is stands told made =
    read_more l image at place word to next offset value found more f read
    (subst (λ (b : Option (List ℕ)). IfSome b (λ image. IsLink l image place f)) same link) named is stands told made

way_stands : {I : Type 0} (g : Ghosts I) (first now : Drafted I) (l : Links) (at count left place word : ℕ) (bytes : Option (List ℕ))
    → bytes ≡ first.bytes
    → Walked g first now l (is_until End) at count left place word → IfSome bytes (λ image. word ≡ word_at image place)
way_stands g first now l at count left place word None same w = tt
way_stands g first now l at count left place word (Some image) same w =
    let way = subst (λ (b : Option (List ℕ)). IfSome b (λ image. IsOnWay l (is_until End) image at (count * l.kinds) left place word))
    (sym same) w.way in
    way.stands

pub listed_more : {I : Type 0} (g : Ghosts I) (first now next : Drafted I) (l : Links) (at count left place word to then offset value : ℕ)
    (found more : List ℕ) (f : Link) (failed : Type 0)
    → AreLinks l → Listed g first now l at count left place word offset found → LooksAtMost g 192 now next failed → (failed → ⊥) → left ≢ 0
    → first.len ≡ block_place l.head count
    → IfSome now.bytes (λ image. IsLink l image place f) → f.word ≡ word → names_block l count word ≡ true
    → to ≡ next_place l word → then ≡ word_at f.block (next_in l word) → value ≡ word_at f.block offset → more ≡ found ++ value ∷ []
    → Listed g first next l at count (left - 1) to then offset more
listed_more g first now next l at count left place word to then offset value found more f failed links so looks not_failed some len link
    named names_it is reads told made =
    let w : Walked g first next l (is_until End) at count (left - 1) to then =
    walked_more g first now next l (is_until End) at count left place word to then f false failed links so.walked looks not_failed some
    len link named names_it refl refl is reads in record {
      walked = w;
      read = more_read first.bytes now.bytes l at place word to then offset value found more f so.walked.frame.looks.same.bytes so.read link
          named is (way_stands g first next l at count (left - 1) to then first.bytes refl w) told made;
    }

path_end : (l : Links) (image : List ℕ) (at : ℕ) (ws : List ℕ) → IsPath l image at ws → word_at image (place_behind l at ws) ≡ 0
    → HasChain l image at ws
path_end l image at [] path none = none
path_end l image at (w ∷ ws) path none = (path.0, path.1, path_end l image (next_place l w) ws path.2 none)

pub listed_all : (bytes : Option (List ℕ)) (l : Links) (at place word offset : ℕ) (found : List ℕ)
    → IfSome bytes (λ image. AreRead l image at place word offset found) → word ≡ 0
    → IfSome bytes (λ image. StandAlong l image at offset found)
listed_all None l at place word offset found read none = tt
listed_all (Some image) l at place word offset found read none = (
  read.0,
  path_end l image at read.0 read.1.path (ap (word_at image) (sym read.1.behind) ∙ sym read.1.stands ∙ none),
  read.2,
)
