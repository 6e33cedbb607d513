-- What becomes of a carried text, by its tests.
use Rattle.std.proofs.Common.{◌≡◌, ◌⊎◌, inl, inr, ℕ, zero, suc, ◌<◌, arith, List, [], ◌∷◌, length, refl, sym, ◌∙◌, ap, subst, Bool, true}
use Rattle.std.proofs.Common.{false}
use Rattle.std.specs.Prelude.{◌==◌, ◌++◌, find, codes, if◌then◌else◌, Option, Some, None, option_map, option_and_then}
use Rattle.std.specs.Prelude.{unwrap_or, bytes_eq}
use Rattle.std.specs.List.{list_any}
use Rattle.std.proofs.lemmas.Bool.{true≢false, or_parts}
use Rattle.std.proofs.lemmas.Slice.Eq.{bytes_eq-Decides}
use Rattle.model.specs.Answer.{Outcome, accepted, article_answer, awaiting, groups_here, has_other_id, id_here, new_session}
use Rattle.model.specs.Answer.{no_group_here, spool_outcome, transfer_outcome}
use Rattle.model.specs.Article.{Carried, added_fields, cause, cause_but_long, field_count, fields, id, id_in_field}
use Rattle.model.specs.Article.{is_blank_field, is_named, long_cause, needed_fields, own_id, written_fields}
use Rattle.model.specs.Calendar.{moment_limit}
use Rattle.model.specs.Lawful.{MayFile}
use Rattle.model.specs.Names.{is_of_host}
use Rattle.model.specs.Replies as replies
use Rattle.model.specs.Spool.{NewsArticle, Spool, by_id, filing_of}
use Rattle.model.specs.Stream.{Octets}
use Rattle.model.specs.declared.change.Change.TheVariants.{Article}
use Rattle.model.specs.declared.session.Awaits.TheVariants as awaits
use Rattle.model.proofs.Ids.{field_counted, no_cause}
use Rattle.model.proofs.Fronts.{first_none, none_mapped}
use Rattle.session_lookups.specs.declared.change_spool.FilingError.{FilingError}
use Rattle.session_lookups.specs.declared.change_spool.FilingError.TheVariants as file
use Rattle.session_posting.proofs.Telling.{transfer_filed}
use Rattle.spool.specs.View.{SpoolView}
use Rattle.volume_store.specs.Filing.{accepted_change, transferred}

-- ---- an article that was carried has a message-id

any_false : {X : Type 0} (p : X → Bool) (x : X) (xs : List X) → list_any p (x ∷ xs) ≡ false → (p x ≡ false) × (list_any p xs ≡ false)
any_false p x xs e = or_parts (p x) (list_any p xs) e

pub has_id : (text : Octets) → cause Carried text ≡ None → own_id text ≡ None → ⊥
unfolding cause
has_id text carried none =
    let counts : Octets → Bool = λ name. field_count name text == 0 in
    let there = (no_cause Carried text (first_none (cause_but_long Carried text) (long_cause Carried text) carried)).there in
    let needed =
    (or_parts (list_any counts (needed_fields Carried)) (list_any (is_blank_field text) (written_fields ++ added_fields)) there).0 in
    let after_from = (any_false counts (codes "From") (codes "Newsgroups" ∷ codes "Subject" ∷ added_fields) needed).1 in
    let after_groups = (any_false counts (codes "Newsgroups") (codes "Subject" ∷ added_fields) after_from).1 in
    let after_subject = (any_false counts (codes "Subject") added_fields after_groups).1 in
    let after_date = (any_false counts (codes "Date") (codes "Message-ID" ∷ codes "Path" ∷ []) after_subject).1 in
    let has = (any_false counts (codes "Message-ID") (codes "Path" ∷ []) after_date).0 in
    let missing =
    field_counted (codes "Message-ID") text (none_mapped id_in_field (find (is_named (codes "Message-ID")) (fields text)) none) in
    true≢false (sym missing ∙ has)

-- ---- the outcome of its transfer

pub own_is : (text own : Octets) → own_id text ≡ Some own → id text ≡ own
own_is text own is = ap (λ (o : Option Octets). unwrap_or o []) is

pub own_id-is : (text : Octets) → cause Carried text ≡ None → own_id text ≡ Some (id text)
own_id-is text carried = by_own (own_id text) refl where
  by_own : (o : Option Octets) → own_id text ≡ o → own_id text ≡ Some (id text)
  by_own None is = absurd (has_id text carried is)
  by_own (Some own) is = is ∙ ap Some (sym (own_is text own is))

same_own : (own text : Octets) → own_id text ≡ Some own → has_other_id own text ≡ false
same_own own text is =
    ap (λ (o : Option Octets). unwrap_or (option_map (λ other. if bytes_eq other own then false else true) o) true) is
    ∙ ap (λ (b : Bool). if b then false else true) ((bytes_eq-Decides own own).1 refl)

pub by_spool : (S : Spool) (text own : Octets) → cause Carried text ≡ None → own_id text ≡ Some own
    → transfer_outcome S (id text) text ≡ spool_outcome (by_id S own) (groups_here S text) None
by_spool S text own carried is =
    ap (λ (i : Octets). transfer_outcome S i text) (own_is text own is)
    ∙ transfer_filed S own text carried (same_own own text is)
    ∙ ap (λ (o : Option Octets). spool_outcome (option_and_then (by_id S) o) (groups_here S text) None) is

pub is_here_by : (S : Spool) (text own : Octets) (a : NewsArticle) → cause Carried text ≡ None → own_id text ≡ Some own
    → by_id S own ≡ Some a → transfer_outcome S (id text) text ≡ id_here a
is_here_by S text own a carried is found =
    by_spool S text own carried is ∙ ap (λ (o : Option NewsArticle). spool_outcome o (groups_here S text) None) found

pub nowhere : (S : Spool) (text own : Octets) → cause Carried text ≡ None → own_id text ≡ Some own → by_id S own ≡ None
    → groups_here S text ≡ [] → transfer_outcome S (id text) text ≡ no_group_here
nowhere S text own carried is new none =
    by_spool S text own carried is ∙ ap (λ (o : Option NewsArticle). spool_outcome o (groups_here S text) None) new
    ∙ ap (λ (here : List Octets). spool_outcome None here None) none

some_groups : (here : List Octets) → 0 < length here → spool_outcome None here None ≡ accepted here
some_groups [] some = absurd (omega arith)
some_groups (g ∷ here) some = refl

pub is_accepted : (S : Spool) (text own : Octets) (groups : List Octets) → cause Carried text ≡ None → own_id text ≡ Some own
    → by_id S own ≡ None → groups ≡ groups_here S text → 0 < length groups → transfer_outcome S (id text) text ≡ accepted groups
is_accepted S text own groups carried is new are some =
    by_spool S text own carried is ∙ ap (λ (o : Option NewsArticle). spool_outcome o (groups_here S text) None) new
    ∙ ap (λ (here : List Octets). spool_outcome None here None) (sym are) ∙ some_groups groups some

pub its_change : (s : SpoolView) (moment : ℕ) (text : Octets) (groups : List Octets) → transferred s text ≡ accepted groups
    → accepted_change s moment text ≡ Some (Article (filing_of text groups moment))
its_change s moment text groups is =
    ap (λ (o : Outcome). (article_answer (awaiting new_session awaits.Line) replies.transferred replies.rejected text moment o).change) is

pub may_file : (host : Octets) (S : Spool) (text own : Octets) (groups : List Octets) (moment : ℕ) → cause Carried text ≡ None
    → own_id text ≡ Some own → is_of_host host own ≡ false → by_id S own ≡ None → groups ≡ groups_here S text → 0 < length groups
    → moment < moment_limit
    → MayFile host S (filing_of text groups moment)
may_file host S text own groups moment carried is foreign new are some early =
    let same = own_is text own is in
    record {
      carried = carried;
      filed = are;
      somewhere = some;
      new = subst (λ (i : Octets). by_id S i ≡ None) (sym same) new;
      own = λ its. absurd (true≢false (sym its ∙ ap (is_of_host host) same ∙ foreign));
      fits = early;
    }

-- ---- whether there is room

pub positive : (n : ℕ) → (n ≡ 0 → ⊥) → 0 < n
positive zero some = absurd (some refl)
positive (suc n) some = omega arith

pub has_room : (full : Bool) → (if full then Some file.Full else None) ≡ None → full ≡ false
has_room true none = absurd (cc)
has_room false none = refl

pub lacks_room : (full : Bool) (e : FilingError) → e ≡ file.Full
    → ((e ≡ file.Memory) × ((if full then Some file.Full else None) ≡ None)) ⊎ ((if full then Some file.Full else None) ≡ Some e)
    → full ≡ true
lacks_room true e is either = refl
lacks_room false e is (inl other) = absurd (let both : file.Full ≡ file.Memory = sym is ∙ other.0 in cc)
lacks_room false e is (inr same) = absurd (cc)
