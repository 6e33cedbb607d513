-- Which articles of a group are old, and the last number that an expiry by age takes out.
use Rattle.std.specs.Prelude.{◌≡◌, ℕ, ◌+◌, ◌-◌, ◌^◌, ◌<◌, ◌≤◌, Bool, true, false, IsTrue, nat_lt, if◌then◌else◌, length}
use Rattle.std.specs.Prelude.{Some, option_map, slice_get, unwrap_or}
use Rattle.model.specs.Stream.{Octets}
use Rattle.model.specs.Spool.{NewsGroup, Spool, by_number, groups, low}
use Rattle.model.specs.Names.{wildmat_matches}
use Rattle.kernel_expiring.specs.declared.Aged.{Aged}
use Rattle.kernel_expiring.specs.declared.AgedArticles.{AgedArticles}
use Rattle.kernel_expiring.specs.declared.AgedGroup.{AgedGroup}
use Rattle.kernel_expiring.specs.declared.AgedGroup.TheVariants as group

-- an article is in the group under this number, and was filed before the moment
abbrev pub is_old : Spool → Octets → ℕ → ℕ → Bool
is_old S g since n = unwrap_or (option_map (λ a. nat_lt a.moment since) (by_number S g n)) false

-- the numbers from the lowest one to this one are those of old articles, and the next number isn't: it has an article that was filed at
-- the moment or later, or none
pub record IsLastOld (S : Spool) (g : Octets) (since last : ℕ) : Type 0 where
  pub some : low S g ≤ last
  pub old : (n : ℕ) → low S g ≤ n → n ≤ last → is_old S g since n ≡ true
  pub next : is_old S g since (last + 1) ≡ false

-- all that is old at the front of this group, whose name the wildmat matches
pub record IsAged (S : Spool) (group : NewsGroup) (w : Octets) (since : ℕ) (aged : Aged) : Type 0 where
  pub name : aged.name.now ≡ group.name
  pub matches : IsTrue (wildmat_matches w group.name)
  pub low : aged.low ≡ low S group.name
  pub last : IsLastOld S group.name since aged.last

-- the number of an expiry has 32 bits
abbrev pub expiry_number : ℕ → ℕ
expiry_number last = if nat_lt last (2 ^ 32) then last else 2 ^ 32 - 1

-- what is taken out of a group: all that is old at its front, as far as the number of an expiry reaches
pub record AreAged (S : Spool) (group : NewsGroup) (w : Octets) (since : ℕ) (aged : AgedArticles) : Type 0 where
  pub name : aged.name ≡ group.name
  pub matches : IsTrue (wildmat_matches w group.name)
  pub last : ℕ
  pub is_last : IsLastOld S group.name since last
  pub number : aged.number ≡ expiry_number last
  pub articles : aged.articles ≡ aged.number + 1 - low S group.name

-- the group at this place: there is none, its first article isn't old or the wildmat doesn't match its name, or what is old goes
abbrev pub IsAgedGroup : Spool → ℕ → Octets → ℕ → AgedGroup → Type 0
IsAgedGroup S place w since group.Missing = length (groups S) ≤ place
IsAgedGroup S place w since group.Spared = (place < length (groups S)) × ((g : NewsGroup) → slice_get (groups S) place ≡ Some g
    → IsTrue (wildmat_matches w g.name) → is_old S g.name since (low S g.name) ≡ false)
IsAgedGroup S place w since (group.Aged aged) = (place < length (groups S)) × ((g : NewsGroup) → slice_get (groups S) place ≡ Some g
    → AreAged S g w since aged)
