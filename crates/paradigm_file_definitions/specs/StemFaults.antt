-- Why a record of a stem file is refused (own).

-- the reasons, in the order in which a record is tested for them
pub data StemWhy : Type 0 where
  Fields : StemWhy
  Spelling : StemWhy
  UnknownClass : StemWhy
  Short : StemWhy
  Limit : StemWhy
  Twice : StemWhy
