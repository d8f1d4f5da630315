-- One version has one image: what is kept of a server while the book grows, and what its moves make of it.
use Rattle.std.proofs.Common.{Bool, true, false, cond, ◌==◌, ◌≡◌, ℕ, zero, suc, ◌+◌, ◌≤◌, List, [], ◌∷◌, ◌++◌, length, take, drop, set, replicate}
use Rattle.std.proofs.Common.{refl, sym, ap, subst, ◌∙◌, arith, append_assoc}
use Rattle.std.proofs.lemmas.Bool.{cond_both}
use Rattle.std.proofs.lemmas.List.{length-append, length-replicate, take-append-drop, drop_at, append-nil}
use Rattle.std.specs.Prelude.{Option, Some, None, ◌&&◌, nat_lt, option_and_then}
use Rattle.ubik_types.specs.declared.images.Change.{Change}
use Rattle.ubik_types.specs.declared.versions.Version.{Version}
use Rattle.ubik_types.specs.Image.{effect}
use Rattle.ubik_types.specs.Logged.{logged}
use Rattle.ubik_types.specs.Phase.{PhaseRecord, NoPhase, Poll, Fetch, Relabel, Send, Ready}
use Rattle.ubik_types.specs.Version.{version_eq}
use Rattle.xdr_base.specs.ChangeText.{text_of}
use Rattle.ubik_calls.specs.declared.packets.TheConstants.{MAX_PIECE}
use Rattle.ubik_calls.specs.declared.packets.Body.{Body}
use Rattle.ubik_calls.specs.declared.packets.Body.TheVariants as body
use Rattle.db_image.specs.Database.{Database}
use Rattle.db_image.proofs.Laid.{changes_lead}
use Rattle.cell_model.specs.Book.{Book, list_of}
use Rattle.cell_model.specs.Durable.{Transaction}
use Rattle.cell_model.specs.Node.{Server, KeptWrite, ReceivedText}
use Rattle.cell_model.specs.Pieces.{numbered_piece, joined, changes_in}
use Rattle.cell_model.specs.Receiver.{kept_with, kept_but, changes_of_length, whole_changes, whole_write}
use Rattle.cell_model.specs.Recovery.{first_of_epoch, piece_fits, text_begun, continues, text_continued, text_with, is_whole}
use Rattle.cell_model.specs.SingleCopy.{image_after}
use Rattle.cell_model.proofs.BookVersions.{image_from-append}
use Rattle.cell_laws.proofs.Parts.{and_both, and_three, eq_true}
use Rattle.cell_pages.specs.Contents.{IsPieceOf, IsFrontOf, ReceivedIsFront, Carries}
use Rattle.cell_pages.specs.Holdings.{WasRelabelled, HoldsContents}
use Rattle.cell_pages.specs.Images.{KeepsImages, IsImageOf, HaveOneList}
use Rattle.cell_pages.specs.Laws.{KeepsLists}
use Rattle.cell_pages.specs.WritesOnTheWay.{last_changes, IsWriteOf, IsWriteOn, IsKeptOn, KeptIsWrite}
use Rattle.cell_pages.proofs.LoggedChanges.{logged_effect}
use Rattle.cell_pages.proofs.Texts.{changes_in_text, joined_text, none_yet, one_more}
use Rattle.cell_pages.proofs.Versions.{same_of_eq}

some_is : {A : Type 0} (x y : A) → ◌≡◌ {A = Option A} (Some x) (Some y) → x ≡ y
some_is x y e = cc

-- one version has one list
pub one_list : (book : Book) (v : Version) (a b : List Transaction) → list_of book v ≡ Some a → list_of book v ≡ Some b → a ≡ b
one_list book v a b first second = some_is a b (sym first ∙ second)

last_is : (a b : List Transaction) (x y : Transaction) → a ++ x ∷ [] ≡ b ++ y ∷ [] → (a ≡ b) × (x ≡ y)
last_is [] [] x y e = let same : x ≡ y = cc in (refl, same)
last_is [] (b ∷ []) x y e = absurd (cc)
last_is [] (b ∷ c ∷ bs) x y e = absurd (cc)
last_is (a ∷ []) [] x y e = absurd (cc)
last_is (a ∷ c ∷ cs) [] x y e = absurd (cc)
last_is (a ∷ cs) (b ∷ bs) x y e =
    let head : a ≡ b = cc in
    let tail : cs ++ x ∷ [] ≡ bs ++ y ∷ [] = cc in
    let rest = last_is cs bs x y tail in
    let same : cs ≡ bs = rest.0 in
    (cc, rest.1)

module _ (db : Database) where
  -- ---- while the book grows

  module _ (book later : Book) (keeps : KeepsLists book later) where
    pub image_later : (v : Version) (image : List ℕ) → IsImageOf db book v image → IsImageOf db later v image
    image_later v image is = record { list = is.list; listed = keeps v is.list is.listed; image_is = is.image_is }

    one_list_later : (old new : Version) → HaveOneList book old new → HaveOneList later old new
    one_list_later old new have = (have.0, keeps old have.0 have.1, keeps new have.0 have.2)

    write_later : (new : Version) (text : List ℕ) → IsWriteOf db book new text → IsWriteOf db later new text
    write_later new text is = record {
      before = is.before;
      last = is.last;
      listed = keeps new (is.before ++ is.last ∷ []) is.listed;
      spelled = is.spelled;
      text_is = is.text_is;
    }

    pub write_on_later : (old new : Version) (text : List ℕ) → IsWriteOn db book old new text → IsWriteOn db later old new text
    unfolding write_later
    write_on_later old new text is = (write_later new text is.0, keeps old is.0.before is.1)

    piece_later : (v : Version) (total at : ℕ) (bytes : List ℕ) → IsPieceOf db book v total at bytes → IsPieceOf db later v total at bytes
    piece_later v total at bytes is =
        record { image = is.image; of = image_later v is.image is.of; total_is = is.total_is; bytes_are = is.bytes_are }

    pub carries_later : (b : Body) → Carries db book b → Carries db later b
    carries_later (body.Piece poll version total offset bytes) is = piece_later version total offset bytes is
    carries_later (body.SendPiece poll version total offset bytes) is = piece_later version total offset bytes is
    carries_later (body.SetVersion poll old new) is = one_list_later old new is
    carries_later (body.Begin old new pieces len) is = (is.0, write_on_later old new is.0 is.1, is.2, is.3)
    carries_later (body.PutPiece new number bytes) is = (is.0, write_later new is.0 is.1, is.2)
    carries_later (body.Beacon start claim ready version) is = tt
    carries_later (body.Vote start granted) is = tt
    carries_later (body.GetVersion poll) is = tt
    carries_later (body.VersionIs poll version) is = tt
    carries_later (body.GetPiece poll version offset) is = tt
    carries_later (body.PieceKept poll version next) is = tt
    carries_later (body.Commit old new) is = tt
    carries_later (body.Abort new) is = tt
    carries_later (body.VersionKept version) is = tt

    pub relabelled_later : (v : Version) (phase : PhaseRecord) → WasRelabelled book v phase → WasRelabelled later v phase
    relabelled_later v NoPhase is = tt
    relabelled_later v (Poll poll) is = tt
    relabelled_later v (Fetch poll best host) is = tt
    relabelled_later v (Relabel poll) is = tt
    relabelled_later v (Send poll spread) is = one_list_later spread.old (first_of_epoch v.epoch) is
    relabelled_later v (Ready poll spread announced) is = one_list_later spread.old (first_of_epoch v.epoch) is

    received_later : (held : Option ReceivedText) → ReceivedIsFront db book held → ReceivedIsFront db later held
    received_later None is = tt
    received_later (Some text) is = record {
      image = is.image;
      of = image_later text.version is.image is.of;
      total_is = is.total_is;
      rest = is.rest;
      image_is = is.image_is;
    }

    kept_later : (v : Version) (kept : Option KeptWrite) → KeptIsWrite db book v kept → KeptIsWrite db later v kept
    kept_later v None is = tt
    kept_later v (Some w) is = record {
      text = is.text;
      write = write_on_later v w.new is.text is.write;
      len = is.len;
      count = is.count;
      pieces = is.pieces;
    }

    pub holds_later : (s : Server) → HoldsContents db book s → HoldsContents db later s
    holds_later s holds = record {
      image = image_later s.version s.image holds.image;
      relabelled = relabelled_later s.version s.phase holds.relabelled;
      flight = λ poll spread announced f at is.
          write_on_later announced s.version (text_of f.changes) (holds.flight poll spread announced f at is);
      received = received_later s.received holds.received;
      kept = kept_later s.version s.kept holds.kept;
    }

  -- ---- one book

  module _ (book : Book) where
    -- one version has one image, and one text
    pub one_image : KeepsImages db → (v : Version) (a b : List ℕ) → IsImageOf db book v a → IsImageOf db book v b → a ≡ b
    one_image good v a b first second =
        first.image_is good ∙ ap (image_after db) (one_list book v first.list second.list first.listed second.listed) ∙ sym (second.image_is good)

    one_text : KeepsImages db → (v : Version) (a b : List ℕ) → IsWriteOf db book v a → IsWriteOf db book v b → a ≡ b
    one_text good v a b first second =
        let lists : first.before ++ first.last ∷ [] ≡ second.before ++ second.last ∷ [] =
        one_list book v _ _ first.listed second.listed in
        let both = last_is first.before second.before first.last second.last lists in
        first.text_is good ∙ ap (λ (l : List Transaction). text_of (last_changes db l first.last)) both.0
        ∙ ap (λ (t : Transaction). text_of (last_changes db second.before t)) both.1 ∙ sym (second.text_is good)

    -- ---- received texts

    front_of_piece : (k : ℕ) (v : Version) (total : ℕ) (bytes : List ℕ) → IsPieceOf db book v total 0 bytes →
        IsFrontOf db book (text_begun k v total bytes)
    front_of_piece k v total bytes is = record {
      image = is.image;
      of = is.of;
      total_is = is.total_is;
      rest = drop MAX_PIECE is.image;
      image_is = λ good. sym (take-append-drop MAX_PIECE is.image) ∙ ap (λ (b : List ℕ). b ++ drop MAX_PIECE is.image) (sym is.bytes_are);
    }

    front_goes_on : (v : Version) (total : ℕ) (bytes : List ℕ) (text : ReceivedText) → text.version ≡ v →
        IsPieceOf db book v total (length text.bytes) bytes → IsFrontOf db book text →
        IsFrontOf db book (record text { bytes = text.bytes ++ bytes })
    front_goes_on v total bytes text same piece front = record {
      image = front.image;
      of = front.of;
      total_is = front.total_is;
      rest = drop MAX_PIECE front.rest;
      image_is = λ good.
          front.image_is good ∙ ap (λ (r : List ℕ). text.bytes ++ r) (sym (take-append-drop MAX_PIECE front.rest))
          ∙ sym (append_assoc text.bytes (take MAX_PIECE front.rest) (drop MAX_PIECE front.rest))
          ∙ ap (λ (b : List ℕ). text.bytes ++ b ++ drop MAX_PIECE front.rest) (sym (bytes_are good));
    }
      where
        images : KeepsImages db → piece.image ≡ front.image
        images good =
            one_image good v piece.image front.image piece.of
            (subst (λ (u : Version). IsImageOf db book u front.image) same front.of)

        bytes_are : KeepsImages db → bytes ≡ take MAX_PIECE front.rest
        bytes_are good =
            piece.bytes_are ∙ ap (λ (i : List ℕ). take MAX_PIECE (drop (length text.bytes) i)) (images good ∙ front.image_is good)
            ∙ ap (take MAX_PIECE) (drop_at text.bytes front.rest (length text.bytes) refl)

    -- the text with a piece
    pub front_with : (may_begin : Bool) (k : ℕ) (v : Version) (total at : ℕ) (bytes : List ℕ) (held : Option ReceivedText)
        (one : ReceivedText) → IsPieceOf db book v total at bytes → ReceivedIsFront db book held →
        text_with may_begin k v total at bytes held ≡ Some one → IsFrontOf db book one
    front_with may_begin k v total at bytes held one piece front is = fits (piece_fits total at bytes) is
      where
        continued : (held : Option ReceivedText) → ReceivedIsFront db book held → text_continued k v total at bytes held ≡ Some one →
            IsFrontOf db book one
        continued None front is = absurd (cc)
        continued (Some text) front is = by (continues k v total at text) refl is
          where
            by : (t : Bool) → continues k v total at text ≡ t →
                cond t (Some (record text { bytes = text.bytes ++ bytes })) None ≡ Some one → IsFrontOf db book one
            by true goes is =
                let same : record text { bytes = text.bytes ++ bytes } ≡ one = some_is _ one is in
                let last = and_both (text.server == k && version_eq text.version v && text.total == total) _ goes in
                let version_is : text.version ≡ v =
                same_of_eq text.version v (and_three (text.server == k) (version_eq text.version v) (text.total == total) last.0).1 in
                let place : length text.bytes ≡ at = eq_true (length text.bytes) at last.1 in
                subst (λ (t : ReceivedText). IsFrontOf db book t) same
                (front_goes_on v total bytes text version_is
                (subst (λ (n : ℕ). IsPieceOf db book v total n bytes) (sym place) piece) front)
            by false goes is = absurd (cc)

        begun : (t : Bool) → at ≡ 0 → cond t (Some (text_begun k v total bytes)) None ≡ Some one → IsFrontOf db book one
        begun true first is =
            subst (λ (t : ReceivedText). IsFrontOf db book t) (some_is (text_begun k v total bytes) one is)
            (front_of_piece k v total bytes (subst (λ (n : ℕ). IsPieceOf db book v total n bytes) first piece))
        begun false first is = absurd (cc)

        starts : (t : Bool) → (at == 0) ≡ t →
            cond t (cond may_begin (Some (text_begun k v total bytes)) None) (text_continued k v total at bytes held) ≡ Some one →
            IsFrontOf db book one
        starts true first is = begun may_begin (eq_true at 0 first) is
        starts false first is = continued held front is

        fits : (t : Bool) →
            cond t (cond (at == 0) (cond may_begin (Some (text_begun k v total bytes)) None) (text_continued k v total at bytes held)) None
            ≡ Some one → IsFrontOf db book one
        fits true is = starts (at == 0) refl is
        fits false is = absurd (cc)

    -- a text that is whole is the image
    pub whole_image : (text : ReceivedText) → is_whole text ≡ true → IsFrontOf db book text → IsImageOf db book text.version text.bytes
    whole_image text whole front = record {
      list = front.of.list;
      listed = front.of.listed;
      image_is = λ good. sym (same good front.rest refl) ∙ front.of.image_is good;
    }
      where
        size : length text.bytes ≡ length front.image
        size = eq_true (length text.bytes) text.total whole ∙ front.total_is

        same : KeepsImages db → (rest : List ℕ) → front.rest ≡ rest → front.image ≡ text.bytes
        same good [] is = front.image_is good ∙ ap (λ (r : List ℕ). text.bytes ++ r) is ∙ append-nil text.bytes
        same good (x ∷ xs) is =
            let whole_is : front.image ≡ text.bytes ++ x ∷ xs = front.image_is good ∙ ap (λ (r : List ℕ). text.bytes ++ r) is in
            absurd (omega (arith, size, ap length whole_is, length-append text.bytes (x ∷ xs)))

    -- ---- kept writes

    pub begun_kept : (v old new : Version) (pieces len : ℕ) → v ≡ old → Carries db book (body.Begin old new pieces len) →
        IsKeptOn db book v (record { old = old; new = new; len = len; pieces = replicate pieces None })
    begun_kept v old new pieces len same is = record {
      text = is.0;
      write = subst (λ (u : Version). IsWriteOn db book u new is.0) (sym same) is.1;
      len = is.3;
      count = length-replicate pieces None ∙ is.2;
      pieces = λ good. none_yet is.0 0 pieces;
    }

    set_length : (pieces : List (Option (List ℕ))) (number : ℕ) (piece : Option (List ℕ)) → length (set pieces number piece) ≡ length pieces
    set_length [] number piece = refl
    set_length (x ∷ pieces) zero piece = refl
    set_length (x ∷ pieces) (suc number) piece = ap suc (set_length pieces number piece)

    pub piece_kept : (v new : Version) (number : ℕ) (bytes : List ℕ) (kept : Option KeptWrite) →
        Carries db book (body.PutPiece new number bytes) → KeptIsWrite db book v kept →
        KeptIsWrite db book v (kept_with new number bytes kept)
    piece_kept v new number bytes None carries is = tt
    piece_kept v new number bytes (Some w) carries is =
        cond_both (version_eq w.new new && nat_lt number (length w.pieces)) (record w { pieces = set w.pieces number (Some bytes) }) w
        (λ (w : KeptWrite). IsKeptOn db book v w) (λ fits. with_it (same_of_eq w.new new (and_both (version_eq w.new new) _ fits).0))
        (λ _. is)
      where
        bytes_are : KeepsImages db → w.new ≡ new → bytes ≡ numbered_piece is.text (0 + number)
        bytes_are good same =
            let texts : carries.0 ≡ is.text =
            one_text good w.new carries.0 is.text (subst (λ (u : Version). IsWriteOf db book u carries.0) (sym same) carries.1)
            is.write.0 in
            let place : 0 + number ≡ number = omega arith in
            carries.2 ∙ ap (λ (t : List ℕ). numbered_piece t number) texts ∙ ap (λ (n : ℕ). numbered_piece is.text n) (sym place)

        with_it : w.new ≡ new → IsKeptOn db book v (record w { pieces = set w.pieces number (Some bytes) })
        with_it same = record {
          text = is.text;
          write = is.write;
          len = is.len;
          count = set_length w.pieces number (Some bytes) ∙ is.count;
          pieces = λ good. one_more is.text 0 number bytes w.pieces (bytes_are good same) (is.pieces good);
        }

    pub but_kept : (v new : Version) (kept : Option KeptWrite) → KeptIsWrite db book v kept → KeptIsWrite db book v (kept_but new kept)
    but_kept v new None is = tt
    but_kept v new (Some w) is = cond_both (version_eq w.new new) None (Some w) (KeptIsWrite db book v) (λ _. tt) (λ _. is)

    -- a kept write that is whole leads to the image of its version
    pub whole_kept : (v new : Version) (image : List ℕ) (kept : Option KeptWrite) (changes : List Change) →
        whole_write new kept ≡ Some changes → IsImageOf db book v image → KeptIsWrite db book v kept →
        IsImageOf db book new (effect image (logged (length image) changes))
    whole_kept v new image None changes whole is kept = absurd (cc)
    whole_kept v new image (Some w) changes whole is kept = by (version_eq w.new new) refl whole
      where
        write : IsWriteOf db book w.new kept.text
        write = kept.write.0

        before_is : KeepsImages db → image ≡ image_after db write.before
        before_is good = is.image_is good ∙ ap (image_after db) (one_list book v is.list write.before is.listed kept.write.1)

        spelled : KeepsImages db → (joint : List ℕ) → joint ≡ kept.text → changes_of_length w.len joint ≡ Some changes →
            changes ≡ last_changes db write.before write.last
        spelled good joint same is = long (length joint == w.len) is
          where
            long : (t : Bool) → cond t (changes_in joint) None ≡ Some changes → changes ≡ last_changes db write.before write.last
            long true at =
                some_is changes (last_changes db write.before write.last)
                (sym at ∙ ap changes_in (same ∙ write.text_is good)
                ∙ changes_in_text (last_changes db write.before write.last) (write.spelled good))
            long false at = absurd (cc)

        read : KeepsImages db → (o : Option (List ℕ)) → joined w.pieces ≡ o → option_and_then (changes_of_length w.len) o ≡ Some changes →
            changes ≡ last_changes db write.before write.last
        read good None at is = absurd (cc)
        read good (Some joint) at is = spelled good joint (joined_text kept.text w.pieces joint (kept.pieces good) kept.count at) is

        leads : KeepsImages db → changes ≡ last_changes db write.before write.last →
            effect image (logged (length image) changes) ≡ image_after db (write.before ++ write.last ∷ [])
        leads good are =
            logged_effect image (length image) changes refl ∙ ap (effect image) are
            ∙ ap (λ (i : List ℕ). effect i (last_changes db write.before write.last)) (before_is good)
            ∙ changes_lead db.head db.block (image_after db write.before) (image_after db (write.before ++ write.last ∷ [])) good.block
            (subst (λ (i : List ℕ). length (image_after db write.before) ≤ length i)
            (sym (image_from-append db [] write.before (write.last ∷ [])))
            (good.grows (image_after db write.before) write.last.moment write.last.call))

        by : (t : Bool) → version_eq w.new new ≡ t → cond t (whole_changes w) None ≡ Some changes →
            IsImageOf db book new (effect image (logged (length image) changes))
        by true same at =
            subst (λ (u : Version). IsImageOf db book u (effect image (logged (length image) changes))) (same_of_eq w.new new same)
            (record {
              list = write.before ++ write.last ∷ [];
              listed = write.listed;
              image_is = λ good. leads good (read good (joined w.pieces) refl at);
            })
        by false same at = absurd (cc)
