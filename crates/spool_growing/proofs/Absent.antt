-- Names that no file of a spool has.
use Rattle.std.proofs.Common.{◌≡◌, ◌≢◌, ◌<◌, ◌≤◌, ◌^◌, ℕ, zero, suc, ◌+◌, Bool, true, false, cond, [], ◌∷◌, length, get_or, drop}
use Rattle.std.proofs.Common.{refl, sym, ◌∙◌, ap, subst, arith}
use Rattle.std.specs.Prelude.{bytes_eq, filter_map, find, flat_map, Option, Some, None}
use Rattle.std.specs.List.{Contains}
use Rattle.model.specs.Stream.{Octets}
use Rattle.model.specs.Files.{File}
use Rattle.model.specs.Records.{last_digits}
use Rattle.model.specs.Spool.{Spool, NewsGroup, entries, entries_from, group_made, group_named, groups, is_name, news_group}
use Rattle.model.specs.SpoolFiles.{article_name, entry_files, expiry_name, files_of, group_name, numbers_name, overview_name}
use Rattle.model.specs.declared.change.Change.TheVariants.{Group, Article, Expire}
use Rattle.model.specs.declared.change.NewGroup.{NewGroup}
use Rattle.model.proofs.Joined.{bytes_same}
use Rattle.model.proofs.Growing.{digits_one}

pub not_first : (a b : Octets) (x y : ℕ) → get_or a 0 0 ≡ x → get_or b 0 0 ≡ y → x ≢ y → a ≢ b
not_first a b x y p q other same = other (sym p ∙ ap (λ (o : Octets). get_or o 0 0) same ∙ q)

-- ---- a group's names

-- none of the names of a group's files
pub record LacksNames (name q : Octets) : Type 0 where
  pub group : q ≢ group_name name
  pub numbers : q ≢ numbers_name name
  pub overview : q ≢ overview_name name

by_first : (name q : Octets) (x : ℕ) → get_or q 0 0 ≡ x → x ≢ 103 → x ≢ 110 → x ≢ 111 → LacksNames name q
by_first name q x is g n o = record {
  group = not_first q (group_name name) x 103 is refl g;
  numbers = not_first q (numbers_name name) x 110 is refl n;
  overview = not_first q (overview_name name) x 111 is refl o;
}

other_group : (name g : Octets) → bytes_eq g name ≡ false → g ≢ name
other_group name g other same = absurd (let one : bytes_eq g name ≡ true = ap (λ (q : Octets). bytes_eq q name) same ∙ bytes_same name in
    cc)

-- a list's names begin otherwise, or are of another group
pub group_files_lack : (name g : Octets) → g ≢ name
    → LacksNames name (group_name g) × LacksNames name (numbers_name g) × LacksNames name (overview_name g)
group_files_lack name g other = (
  record {
    group = λ same. other (ap (λ (o : Octets). drop 2 o) same);
    numbers = not_first (group_name g) (numbers_name name) 103 110 refl refl (λ e. omega arith);
    overview = not_first (group_name g) (overview_name name) 103 111 refl refl (λ e. omega arith);
  },
  record {
    group = not_first (numbers_name g) (group_name name) 110 103 refl refl (λ e. omega arith);
    numbers = λ same. other (ap (λ (o : Octets). drop 2 o) same);
    overview = not_first (numbers_name g) (overview_name name) 110 111 refl refl (λ e. omega arith);
  },
  record {
    group = not_first (overview_name g) (group_name name) 111 103 refl refl (λ e. omega arith);
    numbers = not_first (overview_name g) (numbers_name name) 111 110 refl refl (λ e. omega arith);
    overview = λ same. other (ap (λ (o : Octets). drop 2 o) same);
  },
)

-- the first group isn't it, and the others lack it
parted : (name g : Octets) (group : NewsGroup) (rest : Option NewsGroup) (b : Bool) → bytes_eq g name ≡ b → cond b (Some group) rest ≡ None
    → (bytes_eq g name ≡ false) × (rest ≡ None)
parted name g group rest true is none = absurd (cc)
parted name g group rest false is none = (is, none)

named_of : (name : Octets) (file f : File) → file ≡ f → LacksNames name file.name → LacksNames name f.name
named_of name file f is lacks = subst (λ (x : File). LacksNames name x.name) is lacks

-- the files of the first group lack them, and the later groups have another name
first_lacks : (name : Octets) (n : ℕ) (created : NewGroup) (R : Spool)
    → find (λ (h : NewsGroup). is_name name h.name) (filter_map group_made (entries_from n (Group created ∷ R))) ≡ None
    → (LacksNames name (group_name created.name) × LacksNames name (numbers_name created.name)
    × LacksNames name (overview_name created.name))
    × (find (λ (h : NewsGroup). is_name name h.name) (filter_map group_made (entries_from (suc n) R)) ≡ None)
first_lacks name n created R none =
    let parts = parted name created.name (news_group n created)
    (find (λ (h : NewsGroup). is_name name h.name) (filter_map group_made (entries_from (suc n) R)))
    (bytes_eq created.name name) refl none in
    (group_files_lack name created.name (other_group name created.name parts.0), parts.1)

groups_lack : (S : Spool) (name : Octets) (n : ℕ) (R : Spool)
    → find (λ (g : NewsGroup). is_name name g.name) (filter_map group_made (entries_from n R)) ≡ None → (f : File)
    → Contains (flat_map (entry_files S) (entries_from n R)) f → LacksNames name f.name
groups_lack S name n [] none f (k, low, is) = absurd (omega arith)
groups_lack S name n (Article filing ∷ R) none f (zero, low, is) =
    named_of name _ f is (by_first name (article_name n) 97 refl (λ e. omega arith) (λ e. omega arith) (λ e. omega arith))
groups_lack S name n (Article filing ∷ R) none f (suc k, low, is) = groups_lack S name (suc n) R none f (k, omega arith, is)
groups_lack S name n (Expire expiry ∷ R) none f (zero, low, is) =
    named_of name _ f is (by_first name (expiry_name n) 120 refl (λ e. omega arith) (λ e. omega arith) (λ e. omega arith))
groups_lack S name n (Expire expiry ∷ R) none f (suc k, low, is) = groups_lack S name (suc n) R none f (k, omega arith, is)
groups_lack S name n (Group created ∷ R) none f (zero, low, is) =
    named_of name _ f is (first_lacks name n created R none).0.0
groups_lack S name n (Group created ∷ R) none f (suc zero, low, is) =
    named_of name _ f is (first_lacks name n created R none).0.1
groups_lack S name n (Group created ∷ R) none f (suc (suc zero), low, is) =
    named_of name _ f is (first_lacks name n created R none).0.2
groups_lack S name n (Group created ∷ R) none f (suc (suc (suc k)), low, is) =
    groups_lack S name (suc n) R (first_lacks name n created R none).1 f (k, omega arith, is)

pub lacks_names : (S : Spool) (name : Octets) → group_named S name ≡ None → (f : File) → Contains (files_of S) f → LacksNames name f.name
unfolding group_named groups entries files_of
lacks_names S name none f has = groups_lack S name 1 S none f has

-- ---- a serial's names

-- none of the names of the files of this serial
pub record LacksSerial (m : ℕ) (q : Octets) : Type 0 where
  pub article : q ≢ article_name m
  pub expiry : q ≢ expiry_name m

other_first : (m : ℕ) (q : Octets) (x : ℕ) → get_or q 0 0 ≡ x → x ≢ 97 → x ≢ 120 → LacksSerial m q
other_first m q x is a e = record {
  article = not_first q (article_name m) x 97 is refl a;
  expiry = not_first q (expiry_name m) x 120 is refl e;
}

serial_of : (m : ℕ) (file f : File) → file ≡ f → LacksSerial m file.name → LacksSerial m f.name
serial_of m file f is lacks = subst (λ (x : File). LacksSerial m x.name) is lacks

earlier : (m n : ℕ) → n < m → m < 10 ^ 10 → last_digits 10 n ≢ last_digits 10 m
earlier m n less small same = absurd (let one : n ≡ m = digits_one 10 n m (omega (arith, less, small)) small same in omega arith)

serials_lack : (S : Spool) (m n : ℕ) (R : Spool) → n + length R ≤ m → m < 10 ^ 10 → (f : File)
    → Contains (flat_map (entry_files S) (entries_from n R)) f → LacksSerial m f.name
serials_lack S m n [] later small f (k, low, is) = absurd (omega arith)
serials_lack S m n (Article filing ∷ R) later small f (zero, low, is) = serial_of m _ f is (record {
  article = λ same. earlier m n (omega arith) small (ap (λ (o : Octets). drop 2 o) same);
  expiry = not_first (article_name n) (expiry_name m) 97 120 refl refl (λ e. omega arith);
})
serials_lack S m n (Article filing ∷ R) later small f (suc k, low, is) =
    serials_lack S m (suc n) R (omega arith) small f (k, omega arith, is)
serials_lack S m n (Expire expiry ∷ R) later small f (zero, low, is) = serial_of m _ f is (record {
  article = not_first (expiry_name n) (article_name m) 120 97 refl refl (λ e. omega arith);
  expiry = λ same. earlier m n (omega arith) small (ap (λ (o : Octets). drop 2 o) same);
})
serials_lack S m n (Expire expiry ∷ R) later small f (suc k, low, is) =
    serials_lack S m (suc n) R (omega arith) small f (k, omega arith, is)
serials_lack S m n (Group created ∷ R) later small f (zero, low, is) =
    serial_of m _ f is (other_first m (group_name created.name) 103 refl (λ e. omega arith) (λ e. omega arith))
serials_lack S m n (Group created ∷ R) later small f (suc zero, low, is) =
    serial_of m _ f is (other_first m (numbers_name created.name) 110 refl (λ e. omega arith) (λ e. omega arith))
serials_lack S m n (Group created ∷ R) later small f (suc (suc zero), low, is) =
    serial_of m _ f is (other_first m (overview_name created.name) 111 refl (λ e. omega arith) (λ e. omega arith))
serials_lack S m n (Group created ∷ R) later small f (suc (suc (suc k)), low, is) =
    serials_lack S m (suc n) R (omega arith) small f (k, omega arith, is)

pub lacks_serial : (S : Spool) → length S + 1 < 10 ^ 10 → (f : File) → Contains (files_of S) f → LacksSerial (length S + 1) f.name
unfolding entries files_of
lacks_serial S small f has = serials_lack S (length S + 1) 1 S (omega arith) small f has
