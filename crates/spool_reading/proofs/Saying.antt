-- What the files of changes say.
use Rattle.std.proofs.Common.{◌≡◌, ◌≢◌, ◌↔◌, ℕ, zero, suc, ◌^◌, ◌<◌, ◌≤◌, Bool, true, false, [], ◌∷◌, ◌++◌, length, get_or, sym, ◌∙◌}
use Rattle.std.proofs.Common.{ap, refl, arith, take}
use Rattle.std.specs.Prelude.{Some, None, codes, nat_lt}
use Rattle.std.proofs.lemmas.Bool.{ltb-false, ltb-true}
use Rattle.std.proofs.lemmas.List.{append_assoc}
use Rattle.byteorder.specs.Endian.{little_bytes}
use Rattle.model.specs.Stream.{Octets}
use Rattle.model.specs.Records.{last_digits, group_record, article_record, expiry_record}
use Rattle.model.specs.Calendar.{moment_limit}
use Rattle.model.specs.Lawful.{IsLawfulAfter, MayFollow}
use Rattle.model.specs.Spool.{IsEnvelope, Spool, NewsExpiry, NewsGroup, news_article, news_expiry, news_group, status_octet}
use Rattle.model.specs.Files.{File}
use Rattle.model.specs.FileKinds.{HasRoomInFile}
use Rattle.model.specs.SpoolFiles.{change_file, group_name}
use Rattle.model.specs.declared.change.Change.{Change}
use Rattle.model.specs.declared.change.Change.TheVariants.{Group, Article, Expire}
use Rattle.model.specs.declared.change.Filing.{Filing}
use Rattle.model.specs.declared.change.NewGroup.{NewGroup}
use Rattle.model.specs.declared.values.Status.{Status}
use Rattle.model.proofs.HoldsOne.{no_change, same_change}
use Rattle.model.proofs.Asking.{text_fits}
use Rattle.model.proofs.Strings.{little_split}
use Rattle.spool_records.specs.Kinds.{front_of}
use Rattle.spool_records.specs.declared.names.FileKind.{FileKind}
use Rattle.spool_records.specs.declared.names.FileKind.TheVariants as kind
use Rattle.spool_reading.specs.StoredChanges.{IsFileOf, IsInTime}
use Rattle.spool_reading.proofs.Serials.{one_serial, serial_first}

-- ---- moments

-- a change that may follow is in time
pub may_in_time : (host : Octets) (S : Spool) (c : Change) → MayFollow host S c → IsInTime c
may_in_time host S (Group created) may = may.in_time
may_in_time host S (Article filing) may = may.fits
may_in_time host S (Expire expiry) may = tt

-- so each change of a lawful spool is
pub all_in_time : (host : Octets) (before cs : Spool) → IsLawfulAfter host before cs → (k : ℕ) → k < length cs
    → IsInTime (get_or cs k no_change)
all_in_time host before [] lawful k low = absurd (omega arith)
all_in_time host before (c ∷ cs) lawful zero low = may_in_time host before c lawful.0
all_in_time host before (c ∷ cs) lawful (suc k) low = all_in_time host (before ++ c ∷ []) cs lawful.1 k (omega arith)

-- seconds that make a moment
pub is_moment : (moment seconds : ℕ) → ((Some moment ≡ None) ↔ (moment_limit ≤ seconds)) → seconds < moment_limit
is_moment moment seconds none = by_test (nat_lt seconds moment_limit) refl where
  by_test : (b : Bool) → nat_lt seconds moment_limit ≡ b → seconds < moment_limit
  by_test true is = ltb-true seconds moment_limit is
  by_test false is = absurd (let late : Some moment ≡ None = none.1 (ltb-false seconds moment_limit is) in cc)

-- ---- files of other kinds

first_octet : {n : ℕ} {c : Change} {name content : Octets} → IsFileOf n c name content
    → get_or (change_file (record { serial = n; change = c })).name 0 0 ≡ get_or name 0 0
first_octet is = ap (λ (f : File). get_or f.name 0 0) is.file

pub record IsOfOther (octet : ℕ) : Type 0 where
  pub group : octet ≢ 103
  pub article : octet ≢ 97
  pub expiry : octet ≢ 120

pub other_kind : (n : ℕ) (c : Change) (name content : Octets) → IsOfOther (get_or name 0 0) → IsFileOf n c name content → ⊥
other_kind n (Group created) name content other is = other.group (sym (first_octet is))
other_kind n (Article filing) name content other is = other.article (sym (first_octet is))
other_kind n (Expire expiry) name content other is = other.expiry (sym (first_octet is))

pub other_serial : (n m : ℕ) (c d : Change) (name content : Octets) → n ≢ m → IsFileOf n c name content → IsFileOf m d name content → ⊥
other_serial n m c d name content differ one two = differ (same_change n m c d one.room two.room (one.file ∙ sym two.file)).0

-- the serial that the first octets say
room_serial : (n : ℕ) (c : Change) → HasRoomInFile n c → n < 256 ^ 8
room_serial n (Group created) room = room.0
room_serial n (Article filing) room = room.0
room_serial n (Expire expiry) room = room.0

serial_said : (n m : ℕ) (c : Change) (name content : Octets) → m < 256 ^ 8 → take 8 content ≡ little_bytes 8 m → IsFileOf n c name content
    → n ≡ m
serial_said n m c name content small says is =
    one_serial n m (room_serial n c is.room) small
    (sym (serial_first n c) ∙ ap (λ (f : File). take 8 f.content) is.file ∙ says)

-- ---- names of no kind

pub no_kind : (name content : Octets) → ((k : FileKind) (rest : Octets) → name ≡ front_of k ++ rest → ⊥) → (n : ℕ) (c : Change)
    → IsFileOf n c name content → ⊥
no_kind name content none n (Group created) is = none kind.Group created.name (sym (ap (λ (f : File). f.name) is.file))
no_kind name content none n (Article filing) is = none kind.Article (last_digits 10 n) (sym (ap (λ (f : File). f.name) is.file))
no_kind name content none n (Expire expiry) is = none kind.Expiry (last_digits 10 n) (sym (ap (λ (f : File). f.name) is.file))

-- ---- groups

pub no_group : (group content : Octets) → ((g : NewsGroup) → content ≡ group_record g → ⊥) → (n : ℕ) (c : Change)
    → IsFileOf n c (group_name group) content → ⊥
no_group group content none n (Group created) is =
    none (news_group n created)
    (sym (ap (λ (f : File). f.content) is.file))
no_group group content none n (Article filing) is = absurd (let octets : 97 ≡ 103 = first_octet is in omega arith)
no_group group content none n (Expire expiry) is = absurd (let octets : 120 ≡ 103 = first_octet is in omega arith)

-- what a group's file says
pub record SaysGroup (n serial moment octet : ℕ) : Type 0 where
  pub created : NewGroup
  pub serial_is : n ≡ serial
  pub moment_is : created.moment ≡ moment
  pub octet_is : status_octet created.status ≡ octet
  pub in_time : created.moment < moment_limit

pub group_says : (n serial moment octet : ℕ) (group description content : Octets) (c : Change) → serial < 256 ^ 8 → moment < 256 ^ 8
    → content ≡ little_bytes 8 serial ++ little_bytes 8 moment ++ octet ∷ description → IsFileOf n c (group_name group) content
    → SaysGroup n serial moment octet
group_says n serial moment octet group description content (Group created) small early read is =
    let whole : group_record (news_group n created) ≡ content = ap (λ (f : File). f.content) is.file in
    let its = status_octet created.status ∷ created.description in
    let grouped : little_bytes 8 n ++ (little_bytes 8 created.moment ++ its)
    ≡ little_bytes 8 serial ++ (little_bytes 8 moment ++ octet ∷ description) =
    sym (append_assoc (little_bytes 8 n) (little_bytes 8 created.moment) its) ∙ whole ∙ read
    ∙ append_assoc (little_bytes 8 serial) (little_bytes 8 moment) (octet ∷ description) in
    let serials = little_split 8 n serial (little_bytes 8 created.moment ++ its) (little_bytes 8 moment ++ octet ∷ description) is.room.0
    small grouped in
    let moments = little_split 8 created.moment moment its (octet ∷ description) is.room.1 early serials.1 in
    record {
      created = created;
      serial_is = serials.0;
      moment_is = moments.0;
      octet_is = (let same = moments.1 in cc);
      in_time = is.in_time;
    }
group_says n serial moment octet group description content (Article filing) small early read is =
    absurd (let octets : 97 ≡ 103 = first_octet is in omega arith)
group_says n serial moment octet group description content (Expire expiry) small early read is =
    absurd (let octets : 120 ≡ 103 = first_octet is in omega arith)

pub group_is : (n m moment seconds octet : ℕ) (status : Status) (name description content : Octets) → n < 256 ^ 8 → seconds < 256 ^ 8
    → m ≡ n → moment ≡ seconds → seconds < moment_limit → status_octet status ≡ octet
    → content ≡ little_bytes 8 m ++ little_bytes 8 seconds ++ octet ∷ description
    → IsFileOf n (Group (record { name = name; status = status; description = description; moment = moment })) (group_name name) content
group_is n m moment seconds octet status name description content small fits same moment_is early octet_is is = record {
  room = (small, omega (arith, fits, moment_is));
  in_time = omega (arith, early, moment_is);
  file = ap (λ (o : Octets). record { name = group_name name; content = o })
      (sym (is ∙ (λ i. little_bytes 8 (same i) ++ little_bytes 8 (sym moment_is i) ++ sym octet_is i ∷ description)));
}

-- ---- articles

pub no_article : (digits content : Octets) → ((n : ℕ) (f : Filing) → IsEnvelope f.envelope → length f.text < 256 ^ 4
    → content ≡ article_record (news_article n f) → ⊥)
    → (n : ℕ) (c : Change) → IsFileOf n c (codes "a." ++ digits) content → ⊥
no_article digits content none n (Article filing) is =
    none n filing is.in_time is.room.2 (sym (ap (λ (f : File). f.content) is.file))
no_article digits content none n (Group created) is = absurd (let octets : 103 ≡ 97 = first_octet is in omega arith)
no_article digits content none n (Expire expiry) is = absurd (let octets : 120 ≡ 97 = first_octet is in omega arith)

pub other_article : (digits content : Octets) (n : ℕ) → digits ≢ last_digits 10 n → (c : Change)
    → IsFileOf n c (codes "a." ++ digits) content → ⊥
other_article digits content n differ (Article filing) is =
    let names : 97 ∷ 46 ∷ last_digits 10 n ≡ 97 ∷ 46 ∷ digits = ap (λ (f : File). f.name) is.file in
    differ cc
other_article digits content n differ (Group created) is =
    absurd (let octets : 103 ≡ 97 = first_octet is in omega arith)
other_article digits content n differ (Expire expiry) is = absurd (let octets : 120 ≡ 97 = first_octet is in omega arith)

pub article_serial : (n m : ℕ) (f : Filing) (name content : Octets) (c : Change) → m < 256 ^ 8
    → content ≡ article_record (news_article m f) → IsFileOf n c name content → n ≡ m
article_serial n m f name content c small is its =
    serial_said n m c name content small (ap (take 8) is ∙ serial_first m (Article f)) its

pub article_is : (n m : ℕ) (f : Filing) (digits content : Octets) → n < 256 ^ 8 → length content < 2 ^ 32
    → digits ≡ last_digits 10 n → m ≡ n → IsEnvelope f.envelope → content ≡ article_record (news_article m f)
    → IsFileOf n (Article f) (codes "a." ++ digits) content
article_is n m f digits content small short digits_are same early is = record {
  room = (small, early, omega (arith, text_fits (news_article m f), ap (λ (o : Octets). length o) is));
  in_time = early;
  file =
      let whole = is ∙ ap (λ (k : ℕ). article_record (news_article k f)) same in
      λ i. record { name = codes "a." ++ sym digits_are i; content = sym whole i };
}

-- ---- expiries

pub no_expiry : (digits content : Octets) → ((e : NewsExpiry) → content ≡ expiry_record e → ⊥) → (n : ℕ) (c : Change)
    → IsFileOf n c (codes "x." ++ digits) content → ⊥
no_expiry digits content none n (Expire expiry) is =
    none (news_expiry n expiry) (sym (ap (λ (f : File). f.content) is.file))
no_expiry digits content none n (Group created) is = absurd (let octets : 103 ≡ 120 = first_octet is in omega arith)
no_expiry digits content none n (Article filing) is = absurd (let octets : 97 ≡ 120 = first_octet is in omega arith)

pub other_expiry : (digits content : Octets) (n : ℕ) → digits ≢ last_digits 10 n → (c : Change)
    → IsFileOf n c (codes "x." ++ digits) content → ⊥
other_expiry digits content n differ (Expire expiry) is =
    let names : 120 ∷ 46 ∷ last_digits 10 n ≡ 120 ∷ 46 ∷ digits = ap (λ (f : File). f.name) is.file in
    differ cc
other_expiry digits content n differ (Group created) is =
    absurd (let octets : 103 ≡ 120 = first_octet is in omega arith)
other_expiry digits content n differ (Article filing) is = absurd (let octets : 97 ≡ 120 = first_octet is in omega arith)

pub expiry_serial : (n m number : ℕ) (group name content : Octets) (c : Change) → m < 256 ^ 8
    → content ≡ expiry_record (record { serial = m; group = group; number = number }) → IsFileOf n c name content → n ≡ m
expiry_serial n m number group name content c small is its =
    serial_said n m c name content small (ap (take 8) is ∙ serial_first m (Expire (record { group = group; number = number }))) its

pub expiry_is : (n m number : ℕ) (group digits content : Octets) → n < 256 ^ 8 → number < 256 ^ 4 → digits ≡ last_digits 10 n → m ≡ n
    → content ≡ expiry_record (record { serial = m; group = group; number = number })
    → IsFileOf n (Expire (record { group = group; number = number })) (codes "x." ++ digits) content
expiry_is n m number group digits content small few digits_are same is = record {
  room = (small, few);
  in_time = tt;
  file =
      let whole = is ∙ ap (λ (k : ℕ). expiry_record (record { serial = k; group = group; number = number })) same in
      λ i. record { name = codes "x." ++ sym digits_are i; content = sym whole i };
}
