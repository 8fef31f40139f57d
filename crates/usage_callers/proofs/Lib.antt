mod KeyLemmas
mod PutLemmas
mod CopyLemmas
