mod PartLists
