-- What was read of an incoming file, where the disk tells its files.
use Rattle.std.proofs.Common.{◌≡◌, ◌≤◌, ◌+◌, ◌∙◌, ℕ, min, nat_le, ◌&&◌, Bool, true, false, cond, List, [], ◌∷◌, ◌++◌, length, take, drop, get_or, replicate, Option, Some, None, IfSome, refl, arith, ap, sym, subst, length-take, length-drop, length-append}
use Rattle.std.specs.Prelude.{slice_set}
use Rattle.std.specs.Str.{bytes_eq}
use Rattle.std.proofs.lemmas.Bool.{false≢true}
use Rattle.std.proofs.lemmas.List.{drop_all, drop_at, length-set, take_all, take_at}
use Rattle.std.proofs.lemmas.Grind.{take-set_at}
use Rattle.std.proofs.lemmas.Slice.Eq.{bytes_eq-Decides}
use Rattle.ubik_types.specs.declared.versions.Version.{Version}
use Rattle.ubik_types.specs.Version.{IsVersion}
use Rattle.disk_base.specs.Files.{Files}
use Rattle.page_file.specs.Label.{label, version_in, version_of_label, version_by, IsHeadOf}
use Rattle.page_file.proofs.Labels.{version_by_again, version_by_label, front_of_head}
use Rattle.page_file.proofs.Reading.{head_read}
use Rattle.incoming_file.specs.Incoming.{label_front, IsIncoming, IsIgnored}
use Rattle.incoming_file.specs.Reading.{IsText}
use Rattle.incoming_file.proofs.Opens.{head_open, long_open, open_by_head, split_at}

-- the head of the file
pub incoming_head_read : (files : Option Files) (len n m : ℕ) (bytes : List ℕ) → n ≡ min len 64 → m ≡ n
    → IfSome files (λ fs. len ≡ length fs.incoming)
    → IfSome files (λ fs. bytes ≡ take m (drop 0 fs.incoming))
    → IfSome files (λ fs. IsHeadOf (bytes ++ drop n (replicate 64 0)) fs.incoming)
incoming_head_read None len n m bytes is same told read = tt
incoming_head_read (Some fs) len n m bytes is same told read =
    head_read (Some (record fs { database = fs.incoming })) len n m bytes is same told read

-- ---- a label that was read

tests : (a b c : Bool) → (a && b && c) ≡ true → c ≡ true
tests true true true is = refl
tests true true false is = absurd (false≢true is)
tests true false c is = absurd (false≢true is)
tests false b c is = absurd (false≢true is)

label_by : (bytes : List ℕ) (v w : Version) (a b : Bool) → cond (a && b && bytes_eq bytes (label w)) (Some w) None ≡ Some v
    → bytes ≡ label v
label_by bytes v w a b is = by (a && b && bytes_eq bytes (label w)) refl
  where
    by : (t : Bool) → (a && b && bytes_eq bytes (label w)) ≡ t → bytes ≡ label v
    by true so =
        let same : Some w ≡ Some v = ap (λ (t : Bool). cond t (Some w) None) (sym so) ∙ is in
        let version : w ≡ v = cc in
        (bytes_eq-Decides bytes (label w)).0 (tests a b (bytes_eq bytes (label w)) so) ∙ ap label version
    by false so = let none : None ≡ Some v = ap (λ (t : Bool). cond t (Some w) None) (sym so) ∙ is in absurd cc

-- what is read as a version is its label
pub label_read : (bytes : List ℕ) (v : Version) → version_of_label bytes ≡ Some v → bytes ≡ label v
label_read bytes v is =
    label_by bytes v (version_in bytes) (nat_le (version_in bytes).epoch 2147483647) (nat_le (version_in bytes).counter 2147483647) is

-- a head with a zero in place of its last byte
head_zeroed : (head : List ℕ) → length head ≡ 64 → slice_set head 63 0 ≡ take 63 head ++ 0 ∷ []
head_zeroed head long =
    sym (take_all 64 (slice_set head 63 0) (length_zeroed head long)) ∙ take-set_at head 63 64 0 refl (omega (arith, long))
  where
    length_zeroed : (head : List ℕ) → length head ≡ 64 → length (slice_set head 63 0) ≤ 64
    length_zeroed head long = omega (arith, long, length-set head 63 0)

front_twice : (head : List ℕ) → length head ≡ 64 → take 63 head ≡ take 63 (take 63 head ++ 0 ∷ [])
front_twice head long =
    sym (take_at (take 63 head) (0 ∷ []) 63 (omega (arith, long, length-take 63 head)))

head_split : (head : List ℕ) → length head ≡ 64 → head ≡ take 63 head ++ get_or head 63 0 ∷ []
head_split head long =
    split_at head 63 (omega (arith, long))
    ∙ ap (λ (xs : List ℕ). take 63 head ++ get_or head 63 0 ∷ xs) (drop_all 64 head (omega (arith, long)))

module _ (len : ℕ) (head : List ℕ) (gate : get_or head 63 0 ≡ 101) (whole : length head ≡ 64) where
  -- a file with this head is open under the version that was read
  pub read_open : (read : Option Version) → read ≡ version_by len (slice_set head 63 0) → IfSome read IsVersion
      → IfSome read (λ _. (64 ≤ len) × (len ≤ 16777280))
      → IfSome read (λ version. (file : List ℕ) → len ≡ length file → IsHeadOf head file → IsIncoming file version (drop 64 file))
  read_open None is numbers fits = tt
  read_open (Some v) is numbers fits = λ file long of_file.
      let label_is : slice_set head 63 0 ≡ label v =
      label_read (slice_set head 63 0) v (sym (version_by_label len (slice_set head 63 0) fits.0 fits.1) ∙ sym is) in
      let front : take 63 head ≡ label_front v = front_twice head whole ∙ ap (take 63) (sym (head_zeroed head whole) ∙ label_is) in
      let first : head ≡ take 64 file = front_of_head head file (omega (arith, long, fits.0)) of_file in
      open_by_head file v numbers
      (sym first ∙ head_split head whole ∙ ap (λ (xs : List ℕ). xs ++ get_or head 63 0 ∷ []) front
      ∙ ap (λ (k : ℕ). label_front v ++ k ∷ []) gate)
      (omega (arith, long, fits.1))

  -- and is ignored where none was
  pub read_ignored : (read : Option Version) → read ≡ version_by len (slice_set head 63 0) → read ≡ None → (file : List ℕ)
      → len ≡ length file → IsHeadOf head file → IsIgnored file
  read_ignored read is none file long of_file v image opens =
      let size = long_open file v image opens in
      let first : head ≡ take 64 file = front_of_head head file (omega (arith, size)) of_file in
      let label_is : slice_set head 63 0 ≡ label v =
      head_zeroed head whole ∙ ap (λ (xs : List ℕ). take 63 xs ++ 0 ∷ []) (first ∙ head_open file v image opens) in
      let some : version_by len (slice_set head 63 0) ≡ Some v =
      ap (version_by len) label_is
      ∙ version_by_again v len (omega (arith, opens.is_version.epoch)) (omega (arith, opens.is_version.counter))
      (omega (arith, long, size)) (omega (arith, long, size, opens.fits)) in
      let both : None ≡ Some v = sym none ∙ is ∙ some in absurd cc

-- ---- the content of an open file

-- a label, and the image of the bytes that were read
pub text_is : (version : Version) (bytes : List ℕ) → IsVersion version → 64 ≤ length bytes → length bytes ≤ 16777280
    → IsText (label version ++ drop 64 bytes) version
text_is version bytes is long fits =
    let size : length (label version ++ drop 64 bytes) ≡ 64 + length (drop 64 bytes) = length-append (label version) (drop 64 bytes) in
    record {
      is_version = is;
      labelled = take_at (label version) (drop 64 bytes) 64 refl;
      long = omega (arith, size);
      fits = omega (arith, size, fits, long, length-drop 64 bytes);
    }

pub image_is : (files : Option Files) (version : Version) (bytes text : List ℕ) (n len : ℕ) → text ≡ label version ++ drop 64 bytes
    → n ≡ len
    → IfSome files (λ fs. len ≡ length fs.incoming) → IfSome files (λ fs. bytes ≡ take n (drop 0 fs.incoming))
    → IfSome files (λ fs. drop 64 text ≡ drop 64 fs.incoming)
image_is None version bytes text n len is same long read = tt
image_is (Some fs) version bytes text n len is same long read =
    ap (drop 64) is ∙ drop_at (label version) (drop 64 bytes) 64 refl
    ∙ ap (drop 64) (read ∙ take_all n fs.incoming (omega (arith, long, same)))

-- and what the file stands for
pub finds_open : (a b c d : Option Files) (version : Version) (len : ℕ) (head text : List ℕ) → b ≡ a → c ≡ b → d ≡ c
    → IfSome a (λ fs. len ≡ length fs.incoming) → IfSome b (λ fs. IsHeadOf head fs.incoming)
    → ((file : List ℕ) → len ≡ length file → IsHeadOf head file → IsIncoming file version (drop 64 file))
    → IfSome c (λ fs. drop 64 text ≡ drop 64 fs.incoming) → IfSome d (λ fs. IsIncoming fs.incoming version (drop 64 text))
finds_open None b c d version len head text one two three long of_file opens image =
    let P : Option Files
    → Type 0 = λ o. IfSome o (λ fs. IsIncoming fs.incoming version (drop 64 text)) in subst P (sym (three ∙ two ∙ one)) tt
finds_open (Some fs) b c d version len head text one two three long of_file opens image =
    let P : Option Files → Type 0 = λ o. IfSome o (λ fs. IsIncoming fs.incoming version (drop 64 text)) in
    let at_head : IsHeadOf head fs.incoming = subst (λ (o : Option Files). IfSome o (λ fs. IsHeadOf head fs.incoming)) one of_file in
    let same : drop 64 text ≡ drop 64 fs.incoming = subst (λ (o : Option Files). IfSome o (λ fs. drop 64 text ≡ drop 64 fs.incoming))
    (two ∙ one) image in
    subst P (sym (three ∙ two ∙ one))
    (subst (λ (xs : List ℕ). IsIncoming fs.incoming version xs) (sym same) (opens fs.incoming long at_head))
