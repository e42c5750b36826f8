-- Why a record of a table file is refused (own).

-- the reasons, in the order in which a record is tested for them
pub data TableWhy : Type 0 where
  Fields : TableWhy
  Tag : TableWhy
  Phase : TableWhy
  Spelling : TableWhy
  Limit : TableWhy
  Twice : TableWhy
