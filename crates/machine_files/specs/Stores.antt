-- What the files of an archive tell.
use Rattle.std.specs.Prelude.{◌≡◌, ℕ}
use Rattle.machine_model.specs.Areas.{Both}
use Rattle.machine_files.specs.declared.store.Store.{Store}

-- the lengths of both files
abbrev pub lengths : {F : Type 0} → Store F → Both ℕ
lengths s = record { journal = s.journal.length; pages = s.pages.length }

-- of two stores the same is noted: the lengths, and what is synced
pub record IsNotedAlike {F G : Type 0} (x : Store F) (y : Store G) : Type 0 where
  pub lengths : lengths y ≡ lengths x
  pub journal : y.journal.is_synced ≡ x.journal.is_synced
  pub pages : y.pages.is_synced ≡ x.pages.is_synced
  pub folder : y.is_folder_synced ≡ x.is_folder_synced
  pub lost : y.has_lost ≡ x.has_lost
