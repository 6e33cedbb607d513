-- A group at its place, and its overview.
use Rattle.std.proofs.Common.{◌≡◌, ◌<◌, ℕ, List, length, get_or, map, refl, sym, subst, ◌∙◌, ap}
use Rattle.std.specs.Prelude.{Option, Some, None, option_map, slice_get}
use Rattle.std.proofs.lemmas.List.{length-map}
use Rattle.std.proofs.lemmas.Option.{same_Some, slice_get-map}
use Rattle.model.specs.Stream.{Octets}
use Rattle.model.specs.Files.{IsFile, IsFileSystem, content_of, entry, table}
use Rattle.model.specs.Indexed.{ArePlaces, FilePlaces, GroupIndex, group_index}
use Rattle.model.specs.Spool.{Spool, NewsArticle, NewsGroup, filed_in, groups}
use Rattle.model.specs.SpoolFiles.{overview_file, overview_name}
use Rattle.model.proofs.Joined.{both_at}
use Rattle.fs_layout.proofs.Tables.{named_from_there}
use Rattle.spool_groups.specs.Naming.{heads}
use Rattle.spool_index.specs.View.{IndexView, Indexes}
use Rattle.spool_texts.specs.Texts.{LinesRise}
use Rattle.spool_texts.proofs.Lines.{group_ends, rising}
use Rattle.spool_texts.proofs.Standing.{placed_at}

-- the group with this place has this name
pub record IsAt (S : Spool) (name : Octets) (k : ℕ) : Type 0 where
  pub group : NewsGroup
  pub its_name : group.name ≡ name
  pub at : slice_get (groups S) k ≡ Some group

pub is_at : (S : Spool) (x : IndexView) (name : Octets) (k : ℕ) → Indexes S x → slice_get (heads x.groups) k ≡ Some name → IsAt S name k
is_at S x name k indexed named =
    by_group (slice_get (groups S) k) refl (sym (slice_get-map (λ (i : GroupIndex). i.group.name) x.groups k) ∙ named)
    (ap (λ (gs : List GroupIndex). slice_get gs k) indexed.groups_are ∙ slice_get-map (group_index S) (groups S) k)
  where
    by_group : (o : Option NewsGroup) → slice_get (groups S) k ≡ o
        → option_map (λ (i : GroupIndex). i.group.name) (slice_get x.groups k) ≡ Some name
        → slice_get x.groups k ≡ option_map (group_index S) (slice_get (groups S) k) → IsAt S name k
    by_group None at its is =
        let none : None ≡ Some name = sym (ap (option_map (λ (i : GroupIndex). i.group.name)) (is ∙ ap (option_map (group_index S)) at))
        ∙ its in
        absurd (cc)
    by_group (Some g) at its is =
        record {
          group = g;
          its_name = same_Some g.name name
              (sym (ap (option_map (λ (i : GroupIndex). i.group.name)) (is ∙ ap (option_map (group_index S)) at)) ∙ its);
          at = at;
        }

-- what the index keeps of it
pub record IsKept (S : Spool) (name : Octets) (i : GroupIndex) : Type 0 where
  pub ends : i.ends ≡ group_ends S name
  pub count : length i.filed ≡ length (filed_in S name)

pub is_kept : {X : Type 0} (sh : X → GroupIndex) (gs : List X) (S : Spool) (name : Octets) (k : ℕ) (x : X) → IsAt S name k
    → map sh gs ≡ map (group_index S) (groups S) → slice_get gs k ≡ Some x → IsKept S name (sh x)
is_kept sh gs S name k x its same at =
    let is = both_at sh (group_index S) gs (groups S) k x its.group same at its.at in
    record {
      ends = ap (λ (i : GroupIndex). i.ends) is ∙ ap (group_ends S) its.its_name;
      count = ap (λ (i : GroupIndex). length i.filed) is ∙ length-map (filed_in S its.group.name) (λ (a : NewsArticle). a.serial)
          ∙ ap (λ (q : Octets). length (filed_in S q)) its.its_name;
    }

pub kept_rise : (S : Spool) (name : Octets) (i : GroupIndex) → IsKept S name i → LinesRise i.ends (length i.filed)
kept_rise S name i kept = subst (λ (ends : List ℕ). LinesRise ends (length i.filed)) (sym kept.ends)
    (subst (LinesRise (group_ends S name)) (sym kept.count) (rising S name))

-- where its overview stands
pub record HasOverview (inodes : ℕ) (blocks : List Octets) (S : Spool) (places : List ℕ) (name : Octets) (k : ℕ) : Type 0 where
  pub low : k < length places
  pub below : get_or places k 0 < inodes
  pub file : IsFile (entry inodes blocks (get_or places k 0))
  pub content_is : content_of blocks (entry inodes blocks (get_or places k 0)) ≡ overview_file S name

pub has_overview : (inodes : ℕ) (blocks : List Octets) → IsFileSystem inodes blocks
    → (S : Spool) (p : FilePlaces) (places : List ℕ) (name : Octets) (k : ℕ) → places ≡ p.overviews → IsAt S name k
    → ArePlaces inodes blocks S p
    → HasOverview inodes blocks S places name k
has_overview inodes blocks fs S p places name k same its are =
    let place = placed_at (table inodes blocks) (λ (g : NewsGroup). record {
      name = overview_name g.name;
      content = overview_file S g.name;
    }) (groups S) p.overviews k its.group are.overviews_are its.at in
    let named = named_from_there inodes blocks fs (get_or p.overviews k 0) (overview_name its.group.name)
    (overview_file S its.group.name) place.1 in
    subst (λ (l : List ℕ). HasOverview inodes blocks S l name k) (sym same) (record {
      low = place.0;
      below = named.below;
      file = named.file;
      content_is = sym named.content_is ∙ ap (overview_file S) its.its_name;
    })
