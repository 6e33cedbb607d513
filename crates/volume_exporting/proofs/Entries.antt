-- A batch that is written entry by entry.
use Rattle.std.proofs.Common.{◌≡◌, ℕ, ◌+◌, ◌<◌, List, [], ◌∷◌, ◌++◌, append-nil, length, ap, arith, ◌∙◌, sym, subst}
use Rattle.std.specs.Prelude.{Option, flat_map, slice_index_or, take}
use Rattle.std.specs.Io.KnownBytes.{Appends}
use Rattle.std.proofs.KnownBytes.{Appends-trans}
use Rattle.std.proofs.lemmas.Grind.{flat_map-append}
use Rattle.std.proofs.lemmas.List.{take_all, take_more}
use Rattle.model.specs.Spool.{Spool}
use Rattle.volume_exporting.specs.Exported.{batch_of, entry_for, text_with}
use Rattle.volume_exporting.specs.declared.exported_batches.LineEnds.{LineEnds}

batch_of_more : (ends : LineEnds) (S : Spool) (serials : List ℕ) (n : ℕ) → n < length serials →
    batch_of ends S (take (n + 1) serials)
    ≡ batch_of ends S (take n serials) ++ entry_for ends (text_with S (slice_index_or serials n 0))
batch_of_more ends S serials n low =
    let serial = slice_index_or serials n 0 in
    ap (batch_of ends S) (take_more serials n 0 low)
    ∙ flat_map-append (λ (serial : ℕ). entry_for ends (text_with S serial)) (take n serials) (serial ∷ [])
    ∙ ap (λ (o : List ℕ). batch_of ends S (take n serials) ++ o) (append-nil (entry_for ends (text_with S serial)))

pub one_entry_more : (ends : LineEnds) (S : Spool) (serials : List ℕ) (n : ℕ) (before now after : Option (List ℕ)) →
    n < length serials → Appends before now (batch_of ends S (take n serials)) →
    Appends now after (entry_for ends (text_with S (slice_index_or serials n 0))) →
    Appends before after (batch_of ends S (take (n + 1) serials))
one_entry_more ends S serials n before now after low so_far entry =
    subst (Appends before after) (sym (batch_of_more ends S serials n low)) (Appends-trans before now after _ _ so_far entry)

pub all_entries : (ends : LineEnds) (S : Spool) (serials : List ℕ) (n : ℕ) (before now : Option (List ℕ)) →
    n ≡ length serials → Appends before now (batch_of ends S (take n serials)) → Appends before now (batch_of ends S serials)
all_entries ends S serials n before now all so_far =
    subst (Appends before now) (ap (batch_of ends S) (take_all n serials (omega (arith, all)))) so_far
