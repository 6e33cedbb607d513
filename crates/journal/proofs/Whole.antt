-- The logical blocks are as many as the superblock says, and each has 4,096 octets.
use Rattle.std.proofs.Common.{◌<◌, inl, inr, ℕ, Bool, IsTrue, List, sym, ◌∙◌, ap, subst}
use Rattle.disk.specs.Device.{Device, IsRefused, IsUnchanged}
use Rattle.disk.specs.Image.{part}
use Rattle.journal_segments.specs.Staged.{Staged}
use Rattle.journal.specs.Flight.{Flight, flight_in}
use Rattle.journal.specs.Inside.{IsAdmitted, IsKept, Holds, Touched, blocks_without}
use Rattle.journal_laws.specs.Images.{SameBut}
use Rattle.journal.specs.Journal.{AreWhole}
use Rattle.model.specs.Volume.{epoch_of, format_number, gate_closed, logical_blocks, home_size, laid_over, segment_count, StandsFor}
use Rattle.journal.specs.declared.Next.{Next}
use Rattle.journal_laws.proofs.Whole.{stands_length, stands_whole as sizes_whole}
use Rattle.journal.specs.declared.Next.TheVariants.{Commit}
use Rattle.journal.proofs.Admitted.{size_shut, stands_shut}

-- what an image stands for
pub stands_whole : (x label : List ℕ) (blocks : List (List ℕ)) → StandsFor x label blocks → AreWhole (home_size x) blocks
stands_whole x label blocks stands = record { count = stands_length x label blocks stands; whole = sizes_whole x label blocks stands }

module _ (device : Device) (blocks : ℕ) (superblock : List ℕ) (next : Next) (halted : Bool) (room : List Staged) (filled : ℕ)
    (is_last : Bool) (kept : IsKept device blocks superblock next halted room filled is_last) where
  abbrev f : Flight
  f = flight_in room filled is_last

  abbrev m : ℕ
  m = f.batch.place

  abbrev label : List ℕ
  label = part 20 128 superblock

  -- what the journal keeps has whole blocks
  pub kept_whole : (IsTrue device.tells → device.may_leave device.content) → IsTrue device.tells
      → AreWhole blocks (blocks_without m next device.content)
  kept_whole now t =
      let told = kept.told t in
      let there : m < segment_count device.content = subst (λ (n : ℕ). m < n) (sym told.count) kept.place in
      subst (λ (n : ℕ). AreWhole n (blocks_without m next device.content)) told.size
      (elim (told.admits device.content (now t)) [
        | inl stands ↦ stands_whole device.content label (blocks_without m next device.content) stands
        | inr commits ↦
            subst (λ (s : Next). AreWhole (home_size device.content) (blocks_without m s device.content)) (sym commits.0)
            (subst (λ (n : ℕ). AreWhole n (blocks_without m Commit device.content)) (size_shut device.content label m told.stands there)
            (stands_whole (gate_closed m device.content) label (blocks_without m Commit device.content)
            (stands_shut device.content label m told.stands there)))
      ])

  -- and it is kept by what leaves all that the device means
  pub kept_unchanged : (new : Device) → IsUnchanged device new → IsKept new blocks superblock next halted room filled is_last
  kept_unchanged new same = record {
    size = same.size ∙ kept.size;
    low = kept.low;
    high = kept.high;
    superblock_size = kept.superblock_size;
    few = kept.few;
    there = kept.there;
    place = kept.place;
    places = kept.places;
    left = kept.left;
    within = kept.within;
    staged = kept.staged;
    order = kept.order;
    described = kept.described;
    told = λ t.
        let told = kept.told (subst (λ (b : Bool). IsTrue b) same.tells t) in
        record {
          stands = subst (λ (x : List ℕ). StandsFor x label (logical_blocks x)) (sym same.content) told.stands;
          size = ap home_size same.content ∙ told.size;
          count = ap segment_count same.content ∙ told.count;
          admits = λ c left.
              subst (λ (x : List ℕ). IsAdmitted next label (blocks_without m next x)
              (laid_over (blocks_without m next x) f.batch.numbers f.batch.images) c) (sym same.content)
              (told.admits c ((same.may_leave c).0 left));
          holds = λ runs. subst (λ (x : List ℕ). Holds f next x) (sym same.content) (told.holds runs);
          same = λ runs c left. subst (λ (x : List ℕ). SameBut (Touched f next) x c) (sym same.content)
              (told.same runs c ((same.may_leave c).0 left));
        };
    format_is = λ t runs. ap format_number same.content ∙ kept.format_is (subst (λ (b : Bool). IsTrue b) same.tells t) runs;
    epoch_is = λ t runs. ap epoch_of same.content ∙ kept.epoch_is (subst (λ (b : Bool). IsTrue b) same.tells t) runs;
    formats = λ t c left. kept.formats (subst (λ (b : Bool). IsTrue b) same.tells t) c ((same.may_leave c).0 left);
  }

  -- and by a call that was refused for want of memory
  pub kept_refused : (new : Device) → IsRefused device new → IsKept new blocks superblock next halted room filled is_last
  kept_refused new same = record {
    size = same.time.size ∙ kept.size;
    low = kept.low;
    high = kept.high;
    superblock_size = kept.superblock_size;
    few = kept.few;
    there = kept.there;
    place = kept.place;
    places = kept.places;
    left = kept.left;
    within = kept.within;
    staged = kept.staged;
    order = kept.order;
    described = kept.described;
    told = λ t.
        let before : IsTrue device.tells = subst (λ (b : Bool). IsTrue b) same.time.tells t in
        let told = kept.told before in
        let content = same.content before in
        record {
          stands = subst (λ (x : List ℕ). StandsFor x label (logical_blocks x)) (sym content) told.stands;
          size = ap home_size content ∙ told.size;
          count = ap segment_count content ∙ told.count;
          admits = λ c left.
              subst (λ (x : List ℕ). IsAdmitted next label (blocks_without m next x)
              (laid_over (blocks_without m next x) f.batch.numbers f.batch.images) c) (sym content)
              (told.admits c (same.crash before c left));
          holds = λ runs. subst (λ (x : List ℕ). Holds f next x) (sym content) (told.holds runs);
          same = λ runs c left. subst (λ (x : List ℕ). SameBut (Touched f next) x c) (sym content)
              (told.same runs c (same.crash before c left));
        };
    format_is = λ t runs. let before : IsTrue device.tells = subst (λ (b : Bool). IsTrue b) same.time.tells t in
        ap format_number (same.content before) ∙ kept.format_is before runs;
    epoch_is = λ t runs. let before : IsTrue device.tells = subst (λ (b : Bool). IsTrue b) same.time.tells t in
        ap epoch_of (same.content before) ∙ kept.epoch_is before runs;
    formats = λ t c left. let before : IsTrue device.tells = subst (λ (b : Bool). IsTrue b) same.time.tells t in
        kept.formats before c (same.crash before c left);
  }
