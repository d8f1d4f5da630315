-- The image of a list of transactions stands for the state of the list, so the single copy replies what calls mean there.
use Rattle.std.proofs.Common.{◌≡◌, ◌≢◌, ◌≤◌, ℕ, length, List, [], ◌∷◌, ◌++◌, inl, inr, refl, sym, subst, ◌∙◌}
use Rattle.db_image.specs.Database.{Database}
use Rattle.db_image.specs.declared.services.CallReply.TheVariants.{BadRecord}
use Rattle.db_image.specs.Meaning.{Meaning, state_from}
use Rattle.db_image.specs.Standing.{Standing}
use Rattle.cell_model.specs.Book.{Run}
use Rattle.cell_model.specs.Durable.{Transaction}
use Rattle.cell_model.specs.KeptLaws.{ChangesNothing, IsRecorded}
use Rattle.cell_model.specs.SingleCopy as single
use Rattle.cell_model.specs.SingleCopy.{image_from, image_after}
use Rattle.script_promises.specs.Kept.{IsCounted, state_after}
use Rattle.script_promises.specs.Lawful.{IsLawful}
use Rattle.script_promises.specs.Order.{order_in}
use Rattle.script_promises.specs.Replies.{meant_reply}

-- ---- states and images

state_from-append : {State : Type 0} (m : Meaning State) (s : State) (front more : List Transaction)
    → state_from m s (front ++ more) ≡ state_from m (state_from m s front) more
state_from-append m s [] more = refl
state_from-append m s (t ∷ front) more = state_from-append m (m.call s t.moment t.call).state front more

image_from-append : (db : Database) (image : List ℕ) (front more : List Transaction)
    → image_from db image (front ++ more) ≡ image_from db (image_from db image front) more
image_from-append db image [] more = refl
image_from-append db image (t ∷ front) more = image_from-append db (db.call image t.moment t.call).image front more

module _ (d : Standing) (laws : IsLawful d) where
  abbrev image_of : List Transaction → List ℕ
  image_of transactions = image_after d.database transactions

  stands_from : (image : List ℕ) (s : d.State) (transactions : List Transaction) → d.StandsFor image s
      → d.StandsFor (image_from d.database image transactions) (state_from d.meaning s transactions)
  stands_from image s [] stands = stands
  stands_from image s (t ∷ transactions) stands =
      stands_from (d.database.call image t.moment t.call).image (d.meaning.call s t.moment t.call).state transactions
      (laws.means image s t.moment t.call stands).stands

  pub image_stands : (transactions : List Transaction) → d.StandsFor (image_of transactions) (state_after d transactions)
  image_stands transactions = stands_from [] d.meaning.first transactions laws.first

  -- ---- replies

  -- the single copy over images replies what the call means
  pub reply_meant : (transactions : List Transaction) (now : ℕ) (bytes : List ℕ)
      → single.reply_after d.database transactions now bytes ≡ meant_reply d transactions now bytes
  reply_meant transactions now bytes =
      (laws.means (image_of transactions) (state_after d transactions) now bytes (image_stands transactions)).reply

  -- no call means that the database is bad
  pub never_bad : (transactions : List Transaction) (now : ℕ) (bytes : List ℕ) (at : ℕ) → meant_reply d transactions now bytes ≢ BadRecord at
  never_bad transactions now bytes at is =
      (laws.means (image_of transactions) (state_after d transactions) now bytes (image_stands transactions)).good at is

  -- ---- what is recorded

  -- a transaction that leaves the image leaves the state
  unmoved : (order : List Transaction) (t : Transaction) → image_of (order ++ t ∷ []) ≡ image_of order
      → state_after d (order ++ t ∷ []) ≡ state_after d order
  unmoved order t same =
      state_from-append d.meaning d.meaning.first order (t ∷ [])
      ∙ laws.leaves (image_of order) (state_after d order) t.moment t.call (image_stands order)
      (sym (image_from-append d.database [] order (t ∷ [])) ∙ same)

  -- no transaction leaves an image that is shorter than before
  longer : (order : List Transaction) (t : Transaction) → length (image_of order) ≤ length (image_of (order ++ t ∷ []))
  longer order t =
      subst (λ (image : List ℕ). length (image_of order) ≤ length image) (sym (image_from-append d.database [] order (t ∷ [])))
      (laws.never_shrinks (image_of order) t.moment t.call)

  -- a transaction that changes no block leaves the image, and so the state
  pub state_left : (order : List Transaction) (t : Transaction) → ChangesNothing d.database order t
      → state_after d (order ++ t ∷ []) ≡ state_after d order
  state_left order t changes = unmoved order t (changes.1 laws.block (longer order t))

  pub counted : (r later : Run) (t : Transaction) → IsRecorded d.database r later t → IsCounted d r later t
  counted r later t (inl acknowledged) = inl acknowledged
  counted r later t (inr changes) = inr (state_left (order_in r) t changes)
