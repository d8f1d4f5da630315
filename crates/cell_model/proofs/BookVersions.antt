-- What the durable calls of the one server of a cell make of the book: the list of its durable version goes on, or stays.
use Rattle.std.proofs.Common.{Bool, true, false, cond, ◌==◌, ◌≡◌, ◌⊎◌, inl, inr, ℕ, zero, suc, List, [], ◌∷◌, ◌++◌, take, refl, sym, ap, subst, ◌∙◌, arith}
use Rattle.std.proofs.lemmas.Bool.Decides.{nat_tests}
use Rattle.std.proofs.lemmas.List.{append-nil}
use Rattle.std.specs.Prelude.{Option, Some, None, ◌&&◌, unwrap_or}
use Rattle.ubik_types.specs.declared.images.Change.{Change}
use Rattle.ubik_types.specs.declared.versions.Version.{Version}
use Rattle.ubik_types.specs.Version.{version_eq}
use Rattle.db_image.specs.Database.{Database}
use Rattle.cell_model.specs.declared.events.NodeEvent.{NodeEvent}
use Rattle.cell_model.specs.Book.{Book, BookVersion, list_of, list_or_none, entered}
use Rattle.cell_model.specs.Durable.{Durable, Transaction, Made, durable, durable_after_all}
use Rattle.cell_model.specs.Node.{Server}
use Rattle.cell_model.specs.Recovery.{own_relabelling}
use Rattle.cell_model.specs.SingleCopy.{image_from, image_after}
use Rattle.cell_model.specs.Step.{Stepped}
use Rattle.cell_model.specs.World.{entries_from}
use Rattle.cell_model.specs.Writes.{own_commit}
use Rattle.cell_model.proofs.StepKinds.{IsStep, made_at}

pub same_version : (v : Version) → version_eq v v ≡ true
same_version v =
    let epoch : (v.epoch == v.epoch) ≡ true = grind (arith, nat_tests) in
    let counter : (v.counter == v.counter) ≡ true = grind (arith, nat_tests) in
    ap (λ (b : Bool). b && (v.counter == v.counter)) epoch ∙ counter

-- the list of the newest version
pub newest : (first : BookVersion) (book : Book) → list_of (first ∷ book) first.version ≡ Some first.transactions
newest first book = ap (λ (b : Bool). cond b (Some first.transactions) (list_of book first.version)) (same_version first.version)

-- the list of a version that is not the newest
pub older : (first : BookVersion) (book : Book) (v : Version) (list : List Transaction) → version_eq first.version v ≡ false → list_of book v ≡ Some list → list_of (first ∷ book) v ≡ Some list
older first book v list other is = ap (λ (b : Bool). cond b (Some first.transactions) (list_of book v)) other ∙ is

pub list_is : (book : Book) (v : Version) (list : List Transaction) → list_of book v ≡ Some list → list_or_none book v ≡ list
list_is book v list is = ap (λ (o : Option (List Transaction)). unwrap_or o []) is

pub image_from-append : (db : Database) (image : List ℕ) (front more : List Transaction) → image_from db image (front ++ more) ≡ image_from db (image_from db image front) more
image_from-append db image [] more = refl
image_from-append db image (t ∷ front) more = image_from-append db (db.call image t.moment t.call).image front more

-- the versions that a relabelling and a commit of the one server make
abbrev pub relabelled_version : Book → Version → Version → BookVersion
relabelled_version book old new =
    record { version = new; before = old; transaction = None; maker = 0; transactions = list_or_none book old }

abbrev pub committed_version : Book → Version → Version → Transaction → BookVersion
committed_version book old new t =
    record { version = new; before = old; transaction = Some t; maker = 0; transactions = list_or_none book old ++ t ∷ [] }

-- the list of a durable version, and the image that it leads to
pub record IsListed (db : Database) (book : Book) (d : Durable) (list : List Transaction) : Type 0 where
  pub listed : list_of book d.version ≡ Some list
  pub image_is : d.image ≡ image_after db list

-- the book after durable calls from a version on
abbrev pub book_after : Book → Version → List Made → Book
book_after book v calls = entered book (entries_from 0 v calls)

-- after these calls the list of the durable version goes on so
abbrev pub GoesOn : Database → Book → Durable → List Transaction → List Made → List Transaction → Type 0
GoesOn db book d list calls more = IsListed db (book_after book d.version calls) (durable_after_all d calls) (list ++ more)

module _ (db : Database) (book : Book) (d : Durable) (list : List Transaction) (is : IsListed db book d list) where
  -- no call
  pub goes_nowhere : GoesOn db book d list [] []
  goes_nowhere =
      let P : List Transaction → Type 0 = λ l. IsListed db book d l in subst P (sym (append-nil list)) is

  pub goes_relabelled : (new : Version) → GoesOn db book d list (own_relabelling new ∷ []) []
  goes_relabelled new = record {
    listed = newest (relabelled_version book d.version new) book ∙ ap (λ (l : List Transaction). Some l) (list_is book d.version list is.listed ∙ sym (append-nil list));
    image_is = is.image_is ∙ ap (image_after db) (sym (append-nil list));
  }

  pub goes_committed : (new : Version) (changes : List Change) (now : ℕ) (call : List ℕ) → GoesOn db book d list (own_commit new changes (db.call d.image now call).image (made_at now call) ∷ []) (made_at now call ∷ [])
  goes_committed new changes now call = record {
    listed = newest (committed_version book d.version new (made_at now call)) book ∙ ap (λ (l : List Transaction). Some (l ++ made_at now call ∷ [])) (list_is book d.version list is.listed);
    image_is = ap (λ (image : List ℕ). (db.call image now call).image) is.image_is ∙ sym (image_from-append db [] list (made_at now call ∷ []));
  }

  -- the first of one call at most
  first_goes : (calls : List Made) (more : List Transaction) (made : ℕ) → (calls ≡ []) ⊎ ((one : Made) × (calls ≡ one ∷ [])) → GoesOn db book d list calls more → (rest : List Transaction) × GoesOn db book d list (take made calls) rest
  first_goes calls more made (inl none) goes =
      let P : List Made → Type 0 = λ l. (rest : List Transaction) × GoesOn db book d list (take made l) rest in subst P (sym none) (nothing made)
    where
      nothing : (made : ℕ) → (rest : List Transaction) × GoesOn db book d list (take made []) rest
      nothing zero = ([], goes_nowhere)
      nothing (suc made) = ([], goes_nowhere)
  first_goes calls more made (inr (one, is_one)) goes =
      let P : List Made → Type 0 = λ l. (rest : List Transaction) × GoesOn db book d list (take made l) rest in subst P (sym is_one) (by made)
    where
      whole : GoesOn db book d list (one ∷ []) more
      whole = let Q : List Made → Type 0 = λ l. GoesOn db book d list l more in subst Q is_one goes

      by : (made : ℕ) → (rest : List Transaction) × GoesOn db book d list (take made (one ∷ [])) rest
      by zero = ([], goes_nowhere)
      by (suc zero) = (more, whole)
      by (suc (suc made)) = (more, whole)

-- what a step makes durable: the list goes on by its transaction, or stays
step_goes : (db : Database) (book : Book) (s : Server) (now : ℕ) (e : NodeEvent) (list : List Transaction) (t : Stepped) → IsListed db book (durable s.version s.image) list → IsStep db s now e t → (more : List Transaction) × GoesOn db book (durable s.version s.image) list t.calls more
step_goes db book s now e list t is (inl rests) =
    let P : List Made → Type 0 = λ calls. GoesOn db book (durable s.version s.image) list calls [] in
    ([], subst P (sym rests.calls) (goes_nowhere db book (durable s.version s.image) list is))
step_goes db book s now e list t is (inr (inl made)) =
    let P : List Made → Type 0 = λ calls. GoesOn db book (durable s.version s.image) list calls [] in
    ([], subst P (sym made.calls) (goes_relabelled db book (durable s.version s.image) list is made.new))
step_goes db book s now e list t is (inr (inr made)) =
    let one = made_at now made.answered.call ∷ [] in
    let P : List Made → Type 0 = λ calls. GoesOn db book (durable s.version s.image) list calls one in
    (one, subst P (sym made.calls) (goes_committed db book (durable s.version s.image) list is made.new made.changes now made.answered.call))

one_at_most : (db : Database) (s : Server) (now : ℕ) (e : NodeEvent) (t : Stepped) → IsStep db s now e t → (t.calls ≡ []) ⊎ ((one : Made) × (t.calls ≡ one ∷ []))
one_at_most db s now e t (inl rests) = inl rests.calls
one_at_most db s now e t (inr (inl made)) = inr (own_relabelling made.new, made.calls)
one_at_most db s now e t (inr (inr made)) = inr (_, made.calls)

-- so of the first durable calls of a step that was broken off
pub broken_goes : (db : Database) (book : Book) (s : Server) (now : ℕ) (e : NodeEvent) (list : List Transaction) (t : Stepped) (made : ℕ) → IsListed db book (durable s.version s.image) list → IsStep db s now e t → (more : List Transaction) × GoesOn db book (durable s.version s.image) list (take made t.calls) more
broken_goes db book s now e list t made is step =
    let goes = step_goes db book s now e list t is step in
    first_goes db book (durable s.version s.image) list is t.calls goes.0 made (one_at_most db s now e t step) goes.1
